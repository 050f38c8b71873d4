use Rattle.std.proofs.Common.{◌≡◌, map, take, string_bytes}
use Rattle.redis.specs.Words.{stream_key_meaning}
use Rattle.examples.specs.Worker.{ids_in}
use Rattle.examples.proofs.worker.ids_to_acknowledge.Given as goal

-- the ids of the streams so far
abbrev pub invariant-loop-stream : goal.invariant-loop-stream
invariant-loop-stream l = map string_bytes l.ids.items
    ≡ ids_in (map stream_key_meaning (take l.stream-index l.reply.keys.items))
