use Rattle.std.proofs.Common.{◌≡◌}
use Rattle.stream_fill.proofs.line_reader.LineReader.find_line.Given as goal

-- the file and the place stay
abbrev pub invariant-loop : goal.invariant-loop
invariant-loop g l = record {
  file : g.F.ByteFile.bytes l.self.file ≡ g.F.ByteFile.bytes l.fn.self.file;
  place : l.self.place ≡ l.fn.self.place;
}
