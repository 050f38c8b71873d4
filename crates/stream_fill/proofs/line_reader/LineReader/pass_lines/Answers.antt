use Rattle.std.proofs.Common.{rules, drop, IsNone}
use Rattle.stream_fill.proofs.ReaderLemmas.{all_passed}
use Rattle.stream_fill.proofs.line_reader.LineReader.pass_lines.Goals as goal

pub returns-in-None-clause-end : goal.returns-in-None-clause-end
returns-in-None-clause-end g c same all is =
    let now = c.find_line.new.self in
    let none : IsNone c.in_ok-_len.field-0 = search rules in
    all_passed all (drop now.begin now.buffer.items) now.place (now.is_place all is) (c.in_ok-_len.ensures.rest none all is)
    (c.in_ok-_len.ensures.none none)
