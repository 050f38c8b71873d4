use Rattle.std.proofs.Common.{◌≡◌, map, take, string_bytes}
use Rattle.redis_streams.specs.InfoFullMeaning.{full_consumer_meaning}
use Rattle.stream_commands.specs.Monitor.GroupState.{dead_in}
use Rattle.stream_commands.proofs.monitor.group_state.dead_consumers.Given as goal

-- the names of those so far that are dead
abbrev pub invariant-loop-consumer : goal.invariant-loop-consumer
invariant-loop-consumer l = map string_bytes l.names.items ≡ dead_in l.now l.silent
    (map full_consumer_meaning (take l.consumer-index l.consumers))
