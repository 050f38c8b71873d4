use Rattle.std.proofs.Common.{◌≡◌, map, take}
use Rattle.redis_streams.specs.InfoFullMeaning.{full_pending_meaning}
use Rattle.stream_commands.specs.Monitor.GroupState.{longest_in}
use Rattle.stream_commands.proofs.monitor.group_state.longest_idle.Given as goal

-- the longest time of those so far
abbrev pub invariant-loop-entry : goal.invariant-loop-entry
invariant-loop-entry l = l.longest ≡ longest_in l.now (map full_pending_meaning (take l.entry-index l.pending))
