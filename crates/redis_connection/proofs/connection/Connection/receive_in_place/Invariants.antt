use Rattle.std.proofs.Common.{ℕ}
use Rattle.redis_connection.specs.Passing.{Passes}
use Rattle.redis_connection.proofs.connection.Connection.receive_in_place.Given as goal

-- only push messages were received so far
abbrev pub invariant-loop-turn : goal.invariant-loop-turn
invariant-loop-turn g l = (n : ℕ) × Passes n l.fn.self l.self
