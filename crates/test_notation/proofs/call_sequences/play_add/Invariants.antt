use Rattle.std.proofs.Common.{◌≡◌, map, length, ◌++◌}
use Rattle.std.specs.Vec.Iter.{into_iter_items, into_iter_len}
use Rattle.stream_options.specs.Add.{default_add}
use Rattle.stream_options.specs.AddCalls.{final_add}
use Rattle.test_notation.specs.CallsMeaning.{add_call_of}
use Rattle.test_notation.proofs.call_sequences.play_add.Given as goal

-- the settings that the calls so far leave
abbrev pub invariant-loop-call : goal.invariant-loop-call
invariant-loop-call l = record {
  so_far : l.options ≡ final_add default_add (map add_call_of l.yielded);
  whole : l.yielded ++ into_iter_items l.call-iterator ≡ l.fn.calls.items;
  count : into_iter_len l.call-iterator ≡ length (into_iter_items l.call-iterator);
}
