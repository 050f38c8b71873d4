use Rattle.std.proofs.Common.{◌≡◌, ◌++◌, flat_map, take}
use Rattle.stream_top.specs.Metrics.{consumer_samples}
use Rattle.stream_top.proofs.open_metrics.push_consumers.Given as goal

abbrev pub invariant-loop-consumer : goal.invariant-loop-consumer
invariant-loop-consumer l = l.out.items ≡ l.fn.out.items ++ flat_map (consumer_samples l.metric l.above) (take l.consumer-index l.consumers)
