use Rattle.std.proofs.Common.{◌≡◌, ◌∙◌, ◌+◌, ◌++◌, ◌∷◌, [], ap, string_bytes, subst, sym, take}
use Rattle.std.proofs.lemmas.List.{take_more}
use Rattle.worker.proofs.DeadLettersLemmas.BesidesLemmas.{besides_breaks}
use Rattle.worker.proofs.DeadLettersLemmas.DeadLemmas.{on_err}
use Rattle.worker.specs.DeadLetters.Besides.{GivesUpNow}
use Rattle.worker.specs.DeadLetters.Dead.{Claimer, searcher_of}
use Rattle.worker.specs.Letters.{Names}
use Rattle.stream_run.specs.GivenUp.{GivesUpEach, names_of_search}
use Rattle.stream_run.proofs.GivenUpLemmas.{each_besides, each_more, when_dead, when_left}
use Rattle.stream_run.proofs.drain.give_up_each.Goals as goal
use Rattle.stream_run.proofs.drain.give_up_each.Goals.{then-note+in_ok-give_up, else-note}

pub returns-in_err-give_up-clause-err : goal.returns-in_err-give_up-clause-err
returns-in_err-give_up-clause-err g c = on_err c.from_residual.result (besides_breaks _ _ _
    (each_besides (names_of_search c.args.search.now) (take c.loop-note.note-index c.args.notes.now)
    c.args.connection.now c.loop-note.connection c.loop-note.invariant.given_up)
    c.in_err-give_up.ensures.err)

pub loop-note-preserved : goal.loop-note-preserved
loop-note-preserved g c =
    let p = names_of_search c.args.search.now in
    let k = c.loop-note.note-index in
    let notes = c.args.notes.now in
    let note = c.note-item.result in
    let old = c.args.connection.now in
    let link = c.loop-note.connection in
    let all : take k notes ++ note ∷ [] ≡ take (k + 1) notes =
    sym (take_more notes k note c.loop-note-test.true ∙ ap (λ x. take k notes ++ x ∷ []) (sym c.note-item.is)) in
    elim c.if-note.branch [
      | then-note+in_ok-give_up w ↦ record {
        names = ap names_of_search w.search-is ∙ w.in_ok-give_up.ensures.names ∙ c.loop-note.invariant.names;
        same_search = ap searcher_of w.search-is ∙ w.in_ok-give_up.ensures.same_search ∙ c.loop-note.invariant.same_search;
        given_up = subst (λ l. GivesUpEach p (take (k + 1) notes) old l) (sym w.connection-is)
            (subst (λ ns. GivesUpEach p ns old w.give_up.new.connection) all
            (each_more p (take k notes) note old link w.give_up.new.connection c.loop-note.invariant.given_up
            (when_dead p note link w.give_up.new.connection w.if-note.true
            (subst (λ (q : Claimer × Names). GivesUpNow q.0 q.1 (string_bytes note.id) note.text.items link
            w.give_up.new.connection) c.loop-note.invariant.names w.in_ok-give_up.ensures.ok))));
      }
      | else-note w ↦ record {
        names = ap names_of_search w.search-is ∙ c.loop-note.invariant.names;
        same_search = ap searcher_of w.search-is ∙ c.loop-note.invariant.same_search;
        given_up = subst (λ l. GivesUpEach p (take (k + 1) notes) old l) (sym w.connection-is)
            (subst (λ ns. GivesUpEach p ns old link) all
            (each_more p (take k notes) note old link link c.loop-note.invariant.given_up
            (when_left p note link w.if-note.false)));
      }
    ]
