use Rattle.std.proofs.Common.{◌≡◌, ◌∙◌, ◌++◌, ℕ, List, ap, []}
use Rattle.json.specs.Print.{print}
use Rattle.json.specs.Token.{Token}
use Rattle.stream_drain.specs.Line.{entry_tokens}
use Rattle.worker.specs.Handling.{pair_of}
use Rattle.stream_drain.proofs.JsonLemmas.{entry_texts, no_line_end}
use Rattle.stream_drain.proofs.json_lines.json_line.Goals as goal

pub returns : goal.returns
returns c =
    let none : c.push_entry.new.out.before ≡ [] =
    c.push_entry.ensures.before ∙ c.new-out.ensures.before ∙ c.in_ok-with_capacity.ensures.items in
    let are : c.push_entry.new.out.tokens ≡ entry_tokens (pair_of c.args.entry.now) =
    c.in_ok-push_entry.ensures.tokens
    ∙ ap (λ (ts : List Token). ts ++ entry_tokens (pair_of c.args.entry.now)) c.new-out.ensures.tokens in
    let is = c.into_inner.ensures.items ∙ ap (λ (xs : List ℕ). xs ++ print c.push_entry.new.out.tokens) none
    ∙ ap print are in
    record { line = is; one_line = no_line_end _ _ is (entry_texts (pair_of c.args.entry.now)) }
