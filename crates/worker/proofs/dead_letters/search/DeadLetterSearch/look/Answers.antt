use Rattle.std.proofs.Common.{◌≡◌, ◌∙◌, ℕ, List, Option, Some, add-one, ap, arith, inr, option_map, refl, string_bytes, subst, sym}
use Rattle.worker.specs.DeadLetters.Besides.{nothing}
use Rattle.worker.specs.DeadLetters.Dead.{GivesUpPage, Searcher, SearchesFull, searcher_of}
use Rattle.worker.specs.declared.dead_letters.search.DeadLetterSearch.{DeadLetterSearch}
use Rattle.worker.proofs.DeadLettersLemmas.BesidesLemmas.{besides_both, besides_breaks, no_more}
use Rattle.worker.proofs.DeadLettersLemmas.DeadLemmas.{on_err}
use Rattle.worker.proofs.dead_letters.search.DeadLetterSearch.look.Goals as goal

pub returns-in_err-start-clause-err : goal.returns-in_err-start-clause-err
returns-in_err-start-clause-err g c = on_err c.from_residual.result (no_more _)

pub returns-in_err-next-clause-err : goal.returns-in_err-next-clause-err
returns-in_err-next-clause-err g c = on_err c.from_residual-in_err-next.result
    (besides_breaks _ _ _ c.loop-page.invariant.besides c.in_err-next.ensures.err)

pub returns-in-None-clause-ok : goal.returns-in-None-clause-ok
returns-in-None-clause-ok g c = besides_both _ _ _ c.loop-page.invariant.besides c.in_ok-next.ensures.ok

pub loop-page-init : goal.loop-page-init
loop-page-init g c = record { besides = nothing _; same = refl; pages = (c.in_ok-start.ensures.ok, refl) }

pub loop-page-preserved : goal.loop-page-preserved
loop-page-preserved g c =
    let i = c.loop-page.invariant in
    let s : Searcher = searcher_of c.args.self.now in
    let own = c.args.own in
    let m = c.loop-page.connection in
    let new = c.search_page.new.connection in
    let start : List ℕ = string_bytes c.loop-page.start in
    let next : List ℕ = string_bytes c.in-Some.next in
    let letters = c.search_page.new.self.letters in
    let page : GivesUpPage s own start (Some next) m new =
    subst (λ (z : Searcher). GivesUpPage z own start (Some next) m new) (ap searcher_of i.same)
    (subst (λ (b : List ℕ). GivesUpPage (searcher_of c.loop-page.self) own b (Some next) m new) c.deref.ensures
    (subst (λ (o : Option (List ℕ)). GivesUpPage (searcher_of c.loop-page.self) own c.deref.result.now o m new)
    (ap (option_map string_bytes) c.in-Some.is) c.in_ok-next.ensures.given_up)) in
    record {
      besides = besides_both _ _ _ i.besides c.in_ok-next.ensures.ok;
      same = c.in_ok-next.ensures.same
          ∙ ap (λ (d : DeadLetterSearch). let r : DeadLetterSearch = record d { letters = letters } in r) i.same;
      pages = subst (λ (n : ℕ). SearchesFull s own n next c.args.connection.now new) (sym (add-one c.loop-page._page))
          (start, m, i.pages, page);
    }

pub returns-clause-searches : goal.returns-clause-searches
returns-clause-searches g c =
    let all : c.loop-page._page ≡ 1000 = omega (arith, c.loop-page-test.false, c.loop-page.auto._page-end) in
    let start : List ℕ = string_bytes c.loop-page.start in
    inr (
      start,
      subst (λ (n : ℕ). SearchesFull (searcher_of c.args.self.now) c.args.own n start c.args.connection.now
          c.loop-page.connection) all c.loop-page.invariant.pages,
    )
