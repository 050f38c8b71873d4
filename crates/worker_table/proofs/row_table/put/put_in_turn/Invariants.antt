use Rattle.std.proofs.Common.{◌≡◌, take}
use Rattle.worker_table.specs.RowTable.Rows.{LeavesNoOther}
use Rattle.worker_table.specs.RowTable.OfRow.{rows_of}
use Rattle.worker_table.proofs.RowTableLemmas.PutLemmas.{PutSoFar}
use Rattle.worker_table.proofs.row_table.put.put_in_turn.Given as goal

abbrev pub invariant-loop-row : goal.invariant-loop-row
invariant-loop-row g l =
    let table = g.T.Table in
    PutSoFar (table.seen l.initial.table) (rows_of (take l.row-index l.rows)) (table.seen l.table)
    × (table.committed l.table ≡ table.committed l.initial.table)
    × LeavesNoOther (table.may_leave l.initial.table) (table.may_leave l.table)
