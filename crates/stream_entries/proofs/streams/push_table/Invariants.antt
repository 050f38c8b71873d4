use Rattle.std.proofs.Common.{◌≡◌, ◌++◌}
use Rattle.stream_entries.proofs.streams.push_table.Given as goal

abbrev pub invariant-loop-key : goal.invariant-loop-key
invariant-loop-key l = l.keys.items ++ l.key-iterator ≡ l.initial.keys.items ++ l.initial.key-iterator
