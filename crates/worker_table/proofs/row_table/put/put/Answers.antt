use Rattle.worker_table.specs.RowTable.OfRow.{row_of}
use Rattle.worker_table.proofs.RowTableLemmas.PutLemmas.{put_in}
use Rattle.worker_table.proofs.row_table.put.put.Goals as goal

pub returns-then-branch-clause-there : goal.returns-then-branch-clause-there
returns-then-branch-clause-there g c =
    put_in (g.T.Table.seen c.args.table.now) (g.T.Table.seen c.insert.new.self) (row_of c.args.row.now)
    (rw c.if-branch.true at c.in_ok-insert.ensures.told) c.in_ok-insert.ensures.seen
