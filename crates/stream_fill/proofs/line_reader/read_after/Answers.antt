use Rattle.std.proofs.Common.{rules, ◌≡◌, ◌++◌, ◌∙◌, ap, take, List, ℕ}
use Rattle.std.proofs.lemmas.List.{places}
use Rattle.stream_fill.proofs.line_reader.read_after.Goals as goal

pub returns-clause-read : goal.returns-clause-read
returns-clause-read g c all is =
    let old = c.args.buffer.now.items in
    let read = c.in_ok-count.ensures.read all is in
    let more : c.extend_from_slice.new.self.items ≡ old ++ take c.in_ok-count.count c.read_at.new.piece =
    search (rules, places) in
    more ∙ ap (λ (xs : List ℕ). old ++ xs) read
