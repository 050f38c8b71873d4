use Rattle.std.proofs.Common.{◌≡◌, ◌++◌, take}
use Rattle.stream_top.specs.Metrics.{label_text}
use Rattle.stream_top.proofs.open_metrics.push_label.Given as goal

abbrev pub invariant-loop-byte : goal.invariant-loop-byte
invariant-loop-byte l = l.out.items ≡ l.fn.out.items ++ label_text (take l.byte-index l.text)
