use Rattle.std.proofs.Common.{length}
use Rattle.stream_entries.specs.InFormsMeaning.{entries_held}
use Rattle.stream_entries.specs.ItemsLeft.{trees_left}
use Rattle.stream_entries.specs.Read.{claim_entries}
use Rattle.stream_entries.specs.Rows.{standard_entries}
use Rattle.stream_entries.proofs.InFormsLemmas.{FormsSoFar}
use Rattle.stream_entries.proofs.entries.read_items.Given as goal

abbrev pub invariant-loop-item : goal.invariant-loop-item
invariant-loop-item g l = FormsSoFar standard_entries claim_entries
    (trees_left g.S.Source.values_left g.S.Source.pairs_left l.initial.left)
    (trees_left g.S.Source.values_left g.S.Source.pairs_left l.left) (entries_held l.entries)

abbrev pub decreases-loop-item : goal.decreases-loop-item
decreases-loop-item g l = length (trees_left g.S.Source.values_left g.S.Source.pairs_left l.left)
