use Rattle.std.proofs.Common.{◌≡◌, take, map}
use Rattle.redis_streams.specs.PendingMeaning.{pending_id_meaning}
use Rattle.redis_streams.proofs.pending.extended.StreamPendingCountReply.try_clone.Given as goal

abbrev pub invariant-loop-id : goal.invariant-loop-id
invariant-loop-id l = map pending_id_meaning l.ids.items ≡ map pending_id_meaning (take l.id-index l.id-items)
