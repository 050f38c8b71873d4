use Rattle.std.proofs.Common.{◌≡◌, All}
use Rattle.std.specs.Option.{ForSome}
use Rattle.stream_fill.specs.Placed.{IsPlace}
use Rattle.stream_fill.proofs.lines.find_places.Given as goal

-- the file stays, and each place that was stored is one
abbrev pub invariant-loop : goal.invariant-loop
invariant-loop g l = record {
  file : g.F.ByteFile.bytes l.reader.file ≡ g.F.ByteFile.bytes l.fn.reader.file;
  places : ForSome (g.F.ByteFile.bytes l.reader.file) (λ all. All (IsPlace all) l.places.items);
}
