use Rattle.std.proofs.Common.{[]}
use Rattle.std.specs.Io.KnownBytes.{Consumes}
use Rattle.redis_connection.proofs.incoming.read_once.Given as goal

-- nothing was read so far, and the reader may be read
abbrev pub invariant-loop-turn : goal.invariant-loop-turn
invariant-loop-turn g l = record {
  read : Consumes (g.S.Source.remaining l.fn.reader) (g.S.Source.remaining l.reader) [];
  usable : g.S.Source.may_read l.reader;
}
