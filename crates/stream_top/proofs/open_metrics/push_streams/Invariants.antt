use Rattle.std.proofs.Common.{◌≡◌, ◌++◌, flat_map, take}
use Rattle.stream_top.specs.Metrics.{stream_samples}
use Rattle.stream_top.proofs.open_metrics.push_streams.Given as goal

abbrev pub invariant-loop-stream : goal.invariant-loop-stream
invariant-loop-stream l = l.out.items ≡ l.fn.out.items ++ flat_map (stream_samples l.metric) (take l.stream-index l.streams)
