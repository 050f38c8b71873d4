use Rattle.std.proofs.Common.{rules, ◌≡◌, ◌+◌, drop}
use Rattle.stream_fill.proofs.ReaderLemmas.{front_after, place_after}
use Rattle.stream_fill.proofs.line_reader.LineReader.pass_bytes.Goals as goal

pub invariant_of-self-clause-front : goal.invariant_of-self-clause-front
invariant_of-self-clause-front g c all is =
    let now = c.args.self.now in
    let offset : c.in-Some-Some.offset ≡ now.place.offset + c.args.len = search rules in
    front_after all now.buffer.items now.begin now.place.offset c.in-Some-Some.offset c.args.len c.args.lines offset
    (now.front all is) c.requires.within c.requires.lines

pub invariant_of-self-clause-is_place : goal.invariant_of-self-clause-is_place
invariant_of-self-clause-is_place g c all is =
    let now = c.args.self.now in
    let number : c.in-Some-Some.number ≡ now.place.number + c.args.lines = search rules in
    let offset : c.in-Some-Some.offset ≡ now.place.offset + c.args.len = search rules in
    place_after all (drop now.begin now.buffer.items) now.place c.in-Some-Some.number c.in-Some-Some.offset c.args.len
    c.args.lines number offset (now.is_place all is) (now.front all is) c.requires.within c.requires.lines
