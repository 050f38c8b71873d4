use Rattle.std.proofs.Common.{◌∙◌, sym, subst, List, take}
use Rattle.worker_table.specs.RowTable.OfRow.{row_of, rows_of}
use Rattle.worker_table.specs.RowTable.Rows.{Row}
use Rattle.worker_table.proofs.RowTableLemmas.PutLemmas.{PutSoFar, one_further, put_more}
use Rattle.worker_table.proofs.row_table.put.put_in_turn.Goals as goal

pub loop-row-preserved : goal.loop-row-preserved
loop-row-preserved g c =
    let seen = g.T.Table.seen in
    let rows = c.args.rows.now in
    let at = c.loop-row.row-index in
    let row = c.row-item.result in
    let before = c.loop-row.invariant in (
      subst (λ (done : List Row). PutSoFar (seen c.args.table.now) done (seen c.put.new.table))
          (sym (one_further rows at row c.loop-row-test.true c.row-item.is))
          (put_more (seen c.args.table.now) (rows_of (take at rows)) (seen c.loop-row.table) (seen c.put.new.table)
          (row_of row) before.0 c.in_ok-put.ensures.seen c.in_ok-put.ensures.there),
      c.put.ensures.committed ∙ before.1,
      λ left now. before.2 left (c.put.ensures.crash left now),
    )
