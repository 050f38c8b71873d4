use Rattle.std.proofs.Common.{◌≡◌, ◌++◌, List, length}
use Rattle.worker_table.specs.RowTable.Rows.{LeavesNoOther}
use Rattle.worker_table.specs.RowTable.OfRow.{rows_of}
use Rattle.worker_table.specs.declared.row_table.row.Row.{Row}
use Rattle.worker_table.proofs.RowTableLemmas.PutLemmas.{PutSoFar}
use Rattle.worker_table.proofs.row_table.put.put_each.Given as goal

abbrev pub invariant-loop-rest : goal.invariant-loop-rest
invariant-loop-rest g l =
    let table = g.T.Table in
    ((done : List Row) × (l.rows ≡ done ++ l.rest)
    × PutSoFar (table.seen l.initial.table) (rows_of done) (table.seen l.table))
    × (table.committed l.table ≡ table.committed l.initial.table)
    × LeavesNoOther (table.may_leave l.initial.table) (table.may_leave l.table)

abbrev pub decreases-loop-rest : goal.decreases-loop-rest
decreases-loop-rest g l = length l.rest
