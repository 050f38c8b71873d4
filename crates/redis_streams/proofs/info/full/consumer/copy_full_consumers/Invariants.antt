use Rattle.std.proofs.Common.{◌≡◌, take, map}
use Rattle.redis_streams.specs.InfoFullMeaning.{full_consumer_meaning}
use Rattle.redis_streams.proofs.info.full.consumer.copy_full_consumers.Given as goal

abbrev pub invariant-loop-consumer : goal.invariant-loop-consumer
invariant-loop-consumer l = map full_consumer_meaning l.copies.items
    ≡ map full_consumer_meaning (take l.consumer-index l.consumers)
