use Rattle.std.proofs.Common.{rules, ◌≡◌, ◌≤◌, ◌+◌, ◌++◌, drop, take, length, ℕ, List, ◌∙◌, sym, ap, subst, arith}
use Rattle.std.proofs.lemmas.Bool.Decides.{nat_tests}
use Rattle.stream_fill.specs.Placed.{IsFront}
use Rattle.stream_fill.proofs.ReaderLemmas.{front_more, front_whole}
use Rattle.stream_fill.proofs.line_reader.LineReader.read_more.Goals as goal

pub invariant_of-self-clause-front : goal.invariant_of-self-clause-front
invariant_of-self-clause-front g c all is =
    let now = c.args.self.now in
    let waiting = drop now.begin now.buffer.items in
    let copied : c.extend_from_slice.new.self.items ≡ waiting = search rules in
    let buffer = c.in-Ok.ensures.read all is in
    let offset : c.in-Some.offset ≡ now.place.offset + length waiting = search rules in
    subst (λ (xs : List ℕ). IsFront xs (drop now.place.offset all)) (sym (buffer ∙ ap (λ (xs : List ℕ). xs ++ take c.in-Ok.count (drop c.in-Some.offset all)) copied))
    (front_more waiting (take c.in-Ok.count (drop c.in-Some.offset all)) all now.place.offset c.in-Ok.count (now.front all is)
    (ap (λ (k : ℕ). take c.in-Ok.count (drop k all)) offset))

pub returns-in-Ok-clause-end : goal.returns-in-Ok-clause-end
returns-in-Ok-clause-end g c none all is =
    let now = c.args.self.now in
    let waiting = drop now.begin now.buffer.items in
    let count : c.in-Ok.count ≡ 0 = grind (arith, nat_tests) in
    let copied : c.extend_from_slice.new.self.items ≡ waiting = search rules in
    let buffer = c.in-Ok.ensures.none count ∙ copied in
    let offset : c.in-Some.offset ≡ now.place.offset + length waiting = search rules in
    let end : length all ≤ c.in-Some.offset = c.in-Ok.ensures.end count all is in
    buffer ∙ front_whole waiting all now.place.offset (now.front all is) (subst (λ (k : ℕ). length all ≤ k) offset end)
