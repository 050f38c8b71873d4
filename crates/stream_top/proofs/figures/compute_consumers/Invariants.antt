use Rattle.std.proofs.Common.{◌≡◌, map, take}
use Rattle.redis_streams.specs.InfoFullMeaning.{full_consumer_meaning}
use Rattle.stream_top.specs.Figures.{consumer_figures, consumer_meaning}
use Rattle.stream_top.proofs.figures.compute_consumers.Given as goal

abbrev pub invariant-loop-consumer : goal.invariant-loop-consumer
invariant-loop-consumer l = map consumer_meaning l.list.items
    ≡ map (consumer_figures l.now) (map full_consumer_meaning (take l.consumer-index l.consumers))
