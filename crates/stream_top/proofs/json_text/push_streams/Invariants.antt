use Rattle.std.proofs.Common.{◌≡◌, ◌++◌, flat_map, take}
use Rattle.stream_top.specs.Json.{stream_tokens}
use Rattle.stream_top.proofs.json_text.push_streams.Given as goal

abbrev pub invariant-loop-stream : goal.invariant-loop-stream
invariant-loop-stream l = record {
  before : l.out.before ≡ l.fn.out.before;
  tokens : l.out.tokens ≡ l.fn.out.tokens ++ flat_map stream_tokens (take l.stream-index l.streams);
}
