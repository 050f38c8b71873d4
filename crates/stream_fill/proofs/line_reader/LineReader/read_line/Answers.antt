use Rattle.std.proofs.Common.{rules, ◌≡◌, ◌∙◌, drop, take, List, ℕ, slice_get, sym, ap, subst, Some}
use Rattle.std.proofs.lemmas.List.{places}
use Rattle.worker_journal.specs.LastLines.{lines_of}
use Rattle.stream_fill.specs.Placed.{StartsWithLine}
use Rattle.stream_fill.specs.declared.line_reader.Place.{Place}
use Rattle.stream_fill.proofs.ReaderLemmas.{line_passed, one_counted}
use Rattle.stream_fill.proofs.line_reader.LineReader.read_line.Goals as goal

pub pass_bytes-requires-clause-lines : goal.pass_bytes-requires-clause-lines
pass_bytes-requires-clause-lines g c =
    let now = c.find_line.new.self in
    let starts : StartsWithLine (drop now.begin now.buffer.items) c.in-Some.len = search rules in
    one_counted (drop now.begin now.buffer.items) c.in-Some.len starts

pub returns-in_ok-pass_bytes-in-Some-clause-line : goal.returns-in_ok-pass_bytes-in-Some-clause-line
returns-in_ok-pass_bytes-in-Some-clause-line g c same all is =
    let now = c.find_line.new.self in
    let known = sym (ap g.F.ByteFile.bytes c.pass_bytes.ensures.file) ∙ is in
    let waiting = drop now.begin now.buffer.items in
    let starts : StartsWithLine waiting c.in-Some.len = search rules in
    let line : c.extend_from_slice.new.self.items ≡ take c.in-Some.len waiting = search (rules, places) in
    subst (λ (p : Place). slice_get (lines_of all) p.number ≡ Some c.extend_from_slice.new.self.items) c.find_line.ensures.place
    (line_passed all waiting now.place c.in-Some.len (now.is_place all known) (now.front all known) starts
    ∙ ap (λ (xs : List ℕ). Some xs) (sym line))
