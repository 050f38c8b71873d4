use Rattle.std.proofs.Common.{◌≡◌, ◌≤◌}
use Rattle.stream_fill.proofs.lines.seek_line.Given as goal

-- the file stays the same, and the reader is not beyond the wanted line
abbrev pub invariant-loop : goal.invariant-loop
invariant-loop g l = record {
  file : g.F.ByteFile.bytes l.reader.file ≡ g.F.ByteFile.bytes l.fn.reader.file;
  place : l.reader.place.number ≤ l.number;
}
