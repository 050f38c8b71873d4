use Rattle.std.proofs.Common.{◌≡◌, ◌++◌, length}
use Rattle.std.specs.Vec.Iter.{into_iter_items, into_iter_len}
use Rattle.redis_resp.specs.Table.{entries_meaning}
use Rattle.stream_entries.specs.InFormsMeaning.{entries_held, held_in, list_or_none}
use Rattle.stream_entries.specs.ReadMeaning.{streams_of}
use Rattle.stream_entries.proofs.streams.OpenStreams.into_form.Given as goal

abbrev pub invariant-loop-key : goal.invariant-loop-key
invariant-loop-key l = record {
  so_far : streams_of l.keys ++ entries_meaning (λ e. list_or_none (held_in l.form (entries_held e)))
      (into_iter_items l.key-iterator)
      ≡ entries_meaning (λ e. list_or_none (held_in l.form (entries_held e))) (into_iter_items l.initial.key-iterator);
  count : into_iter_len l.key-iterator ≡ length (into_iter_items l.key-iterator);
}
