use Rattle.std.proofs.Common.{◌≡◌, ◌++◌, flat_map, length}
use Rattle.std.specs.Vec.Iter.{into_iter_items, into_iter_len}
use Rattle.stream_entries.specs.EntryMeaning.{entries_of}
use Rattle.stream_entries.specs.InFormsMeaning.{given_in, overlap_of}
use Rattle.stream_entries.proofs.overlap.settle.Given as goal

abbrev pub invariant-loop-overlap : goal.invariant-loop-overlap
invariant-loop-overlap l = record {
  so_far : entries_of l.ids ++ flat_map (λ o. given_in l.form (overlap_of o)) (into_iter_items l.overlap-iterator)
      ≡ flat_map (λ o. given_in l.form (overlap_of o)) (into_iter_items l.initial.overlap-iterator);
  count : into_iter_len l.overlap-iterator ≡ length (into_iter_items l.overlap-iterator);
}
