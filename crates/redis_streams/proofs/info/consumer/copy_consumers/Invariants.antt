use Rattle.std.proofs.Common.{◌≡◌, take, map}
use Rattle.redis_streams.specs.InfoMeaning.{consumer_meaning}
use Rattle.redis_streams.proofs.info.consumer.copy_consumers.Given as goal

abbrev pub invariant-loop-consumer : goal.invariant-loop-consumer
invariant-loop-consumer l = map consumer_meaning l.copies.items
    ≡ map consumer_meaning (take l.consumer-index l.consumers)
