use Rattle.std.proofs.Common.{◌≤◌, ◌<◌, length, None}
use Rattle.redis_connection.specs.Link.{Waits}
use Rattle.redis_connection.specs.Seen.{seen}
use Rattle.redis_connection.proofs.incoming.receive_in_place_from.Given as goal

-- the bytes received so far are held, and nothing was consumed
abbrev pub invariant-loop-turn : goal.invariant-loop-turn
invariant-loop-turn g l = record {
  within : l.unfed ≤ length l.piece;
  room : 0 < length l.piece;
  waits : Waits (seen 0 None (g.S.Source.remaining l.fn.reader) l.fn.replies l.fn.piece l.fn.unfed)
      (seen 0 None (g.S.Source.remaining l.reader) l.replies l.piece l.unfed);
  usable : g.S.Source.may_read l.reader;
}
