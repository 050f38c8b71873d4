use Rattle.std.proofs.Common.{length}
use Rattle.redis_resp.specs.Table.{table_reading}
use Rattle.stream_entries.specs.InFormsMeaning.{streams_held}
use Rattle.stream_entries.specs.ItemsLeft.{trees_left}
use Rattle.stream_entries.specs.Read.{claim_entries}
use Rattle.stream_entries.specs.Rows.{entries_reading, standard_entries}
use Rattle.stream_entries.proofs.InFormsLemmas.{FormsSoFar}
use Rattle.stream_entries.proofs.streams.read_streams.Given as goal

abbrev pub invariant-loop-row : goal.invariant-loop-row
invariant-loop-row g l = FormsSoFar (table_reading (entries_reading standard_entries))
    (table_reading (entries_reading claim_entries))
    (trees_left g.S.Source.values_left g.S.Source.pairs_left l.initial.left)
    (trees_left g.S.Source.values_left g.S.Source.pairs_left l.left) (streams_held l.streams)

abbrev pub decreases-loop-row : goal.decreases-loop-row
decreases-loop-row g l = length (trees_left g.S.Source.values_left g.S.Source.pairs_left l.left)
