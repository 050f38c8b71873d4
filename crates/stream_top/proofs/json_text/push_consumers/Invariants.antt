use Rattle.std.proofs.Common.{◌≡◌, ◌++◌, flat_map, take}
use Rattle.stream_top.specs.Json.{consumer_tokens}
use Rattle.stream_top.proofs.json_text.push_consumers.Given as goal

abbrev pub invariant-loop-consumer : goal.invariant-loop-consumer
invariant-loop-consumer l = record {
  before : l.out.before ≡ l.fn.out.before;
  tokens : l.out.tokens ≡ l.fn.out.tokens ++ flat_map consumer_tokens (take l.consumer-index l.consumers);
}
