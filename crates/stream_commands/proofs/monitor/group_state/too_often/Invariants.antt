use Rattle.std.proofs.Common.{◌≡◌, map, take, string_bytes}
use Rattle.redis_streams.specs.InfoFullMeaning.{full_pending_meaning}
use Rattle.stream_commands.specs.Monitor.GroupState.{too_often_in}
use Rattle.stream_commands.proofs.monitor.group_state.too_often.Given as goal

-- the ids of those so far that were delivered too often
abbrev pub invariant-loop-entry : goal.invariant-loop-entry
invariant-loop-entry l = map string_bytes l.ids.items
    ≡ too_often_in l.times (map full_pending_meaning (take l.entry-index l.pending))
