use Rattle.std.proofs.Common.{◌≡◌, ◌∙◌, ◌++◌, ℕ, List, ap, sym, subst, []}
use Rattle.json.specs.Print.{print}
use Rattle.json.specs.Token.{Token}
use Rattle.worker_jobs.specs.LineOf.{line_tokens}
use Rattle.worker_jobs.specs.Lines.{HasNoEnd}
use Rattle.worker.specs.Handling.{pair_of}
use Rattle.worker_jobs.proofs.TellLemmas.{no_line_end}
use Rattle.worker_jobs.proofs.line.entry_line.Goals as goal

pub returns-clause-one_line : goal.returns-clause-one_line
returns-clause-one_line c =
    let stream = c.args.stream.now in
    let entry = pair_of c.args.entry.now in
    let none : c.push_entry.new.out.before ≡ [] =
    c.push_entry.ensures.before ∙ c.new-out.ensures.before ∙ c.in_ok-with_capacity.ensures.items in
    let are : c.push_entry.new.out.tokens ≡ line_tokens stream entry =
    c.in_ok-push_entry.ensures.tokens ∙ ap (λ (ts : List Token). ts ++ line_tokens stream entry) c.new-out.ensures.tokens in
    let is = c.into_inner.ensures.items ∙ ap (λ (xs : List ℕ). xs ++ print c.push_entry.new.out.tokens) none ∙ ap print are in
    subst HasNoEnd (sym is) (no_line_end stream entry)
