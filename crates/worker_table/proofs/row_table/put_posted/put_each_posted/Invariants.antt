use Rattle.std.proofs.Common.{◌≡◌, take}
use Rattle.worker_table.specs.RowTable.Rows.{LeavesNoOther}
use Rattle.worker_table.specs.RowTable.OfPost.{all_posted}
use Rattle.worker_table.proofs.RowTableLemmas.PostsLemmas.{PostedSoFar}
use Rattle.worker_table.proofs.row_table.put_posted.put_each_posted.Given as goal

abbrev pub invariant-loop-row : goal.invariant-loop-row
invariant-loop-row g l =
    let table = g.T.WithOutbox in
    PostedSoFar (table.seen l.initial.table) (all_posted (take l.row-index l.rows)) (table.seen l.table)
    × (table.committed l.table ≡ table.committed l.initial.table)
    × LeavesNoOther (table.may_leave l.initial.table) (table.may_leave l.table)
