use Rattle.std.proofs.Common.{◌≡◌, map, take, string_bytes}
use Rattle.std.specs.Prelude.{filter, nat_le}
use Rattle.redis.specs.Words.{pending_id_meaning}
use Rattle.examples.proofs.monitoring.delivered_too_often.Given as goal

-- the ids of those so far that were delivered so often
abbrev pub invariant-loop-pending : goal.invariant-loop-pending
invariant-loop-pending l = map string_bytes l.ids.items ≡ map (λ p. p.id)
    (filter (λ p. nat_le l.limit p.times_delivered) (map pending_id_meaning (take l.pending-index l.reply.ids.items)))
