use Rattle.std.proofs.Common.{◌≡◌, take, map}
use Rattle.redis_streams.specs.InfoFullMeaning.{full_pending_meaning}
use Rattle.redis_streams.proofs.info.full.pending.copy_pending.Given as goal

abbrev pub invariant-loop-entry : goal.invariant-loop-entry
invariant-loop-entry l = map full_pending_meaning l.copies.items
    ≡ map full_pending_meaning (take l.entry-index l.entries)
