use Rattle.std.proofs.Common.{◌≡◌, ◌++◌, flat_map, length}
use Rattle.std.specs.Vec.Iter.{into_iter_items, into_iter_len}
use Rattle.stream_entries.specs.EntryMeaning.{entries_of}
use Rattle.stream_entries.proofs.items.join.Given as goal

abbrev pub invariant-loop-item : goal.invariant-loop-item
invariant-loop-item g l = record {
  so_far : entries_of l.ids ++ flat_map g.T.ListItem.entries (into_iter_items l.item-iterator)
      ≡ flat_map g.T.ListItem.entries (into_iter_items l.initial.item-iterator);
  count : into_iter_len l.item-iterator ≡ length (into_iter_items l.item-iterator);
}
