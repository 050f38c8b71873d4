use Rattle.std.proofs.Common.{◌≤◌, length, take}
use Rattle.std.specs.Io.KnownBytes.{Appends}
use Rattle.stream_serve.proofs.output.write_whole.Given as goal

-- a front of the bytes was written
abbrev pub invariant-loop : goal.invariant-loop
invariant-loop g l = record {
  within : l.at ≤ length l.bytes;
  went : Appends (g.W.Write.contents l.fn.output) (g.W.Write.contents l.output) (take l.at l.bytes);
}
