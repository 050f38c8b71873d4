use Rattle.std.proofs.Common.{length, map}
use Rattle.redis_resp.proofs.ReadLemmas.{ReadSoFar}
use Rattle.redis_streams.specs.Pending.{pending_row}
use Rattle.redis_streams.specs.PendingMeaning.{pending_id_meaning}
use Rattle.redis_streams.proofs.pending.extended.read_rows.Given as goal

abbrev pub invariant-loop-row : goal.invariant-loop-row
invariant-loop-row g l = ReadSoFar pending_row (g.S.Source.values_left l.initial.rows) (g.S.Source.values_left l.rows)
    (map pending_id_meaning l.ids.items)

abbrev pub decreases-loop-row : goal.decreases-loop-row
decreases-loop-row g l = length (g.S.Source.values_left l.rows)
