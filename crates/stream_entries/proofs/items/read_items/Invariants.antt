use Rattle.std.proofs.Common.{length}
use Rattle.stream_entries.specs.EntryMeaning.{entries_of}
use Rattle.stream_entries.proofs.ItemFormLemmas.{EntriesSoFar}
use Rattle.stream_entries.proofs.items.read_items.Given as goal

abbrev pub invariant-loop-item : goal.invariant-loop-item
invariant-loop-item g l = EntriesSoFar g.F.ItemForm.form (g.S.Source.values_left l.initial.values)
    (g.S.Source.values_left l.values) (entries_of l.ids)

abbrev pub decreases-loop-item : goal.decreases-loop-item
decreases-loop-item g l = length (g.S.Source.values_left l.values)
