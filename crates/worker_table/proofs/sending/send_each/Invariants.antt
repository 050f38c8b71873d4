use Rattle.std.proofs.Common.{◌≡◌}
use Rattle.worker_table.specs.RowTable.Rows.{LeavesNoOther}
use Rattle.worker_table.specs.Forwarded.{Went}
use Rattle.worker_table.proofs.sending.send_each.Given as goal

-- posts went out so far, and are removed
abbrev pub invariant-loop : goal.invariant-loop
invariant-loop g l =
    let table = g.T.WithOutbox in
    Went l.fn.connection (table.seen l.fn.table) l.connection (table.seen l.table)
    × (table.committed l.table ≡ table.committed l.fn.table)
    × LeavesNoOther (table.may_leave l.fn.table) (table.may_leave l.table)
