use Rattle.std.proofs.Common.{◌≤◌, length, take}
use Rattle.std.specs.Io.KnownBytes.{Appends}
use Rattle.redis_connection.proofs.outgoing.write_whole.Given as goal

-- a prefix of the bytes was written, and the writer may be used
abbrev pub invariant-loop-turn : goal.invariant-loop-turn
invariant-loop-turn g l = record {
  within : l.at ≤ length l.bytes;
  went : Appends (g.S.Sink.contents l.fn.writer) (g.S.Sink.contents l.writer) (take l.at l.bytes);
  usable : g.S.Sink.may_write l.writer;
}
