use Rattle.std.proofs.Common.{◌≡◌, ◌∙◌, sym, ap, subst, List, ◌++◌, append_assoc}
use Rattle.worker_table.specs.RowTable.OfRow.{rows_of}
use Rattle.worker_table.specs.RowTable.Rows as rows
use Rattle.worker_table.specs.declared.row_table.row.Row.{Row}
use Rattle.worker_table.proofs.RowTableLemmas.PutLemmas.{PutSoFar, map_both, put_some_more}
use Rattle.worker_table.proofs.row_table.put.put_each.Goals as goal

pub loop-rest-preserved : goal.loop-rest-preserved
loop-rest-preserved g c =
    let seen = g.T.Table.seen in
    let before = c.loop-rest.invariant in
    let done = before.0.0 in
    let some = c.split_at.result.0.now in
    let after = c.split_at.result.1.now in
    let parts : c.loop-rest.rest.now ≡ some ++ after = search in (
      (
        done ++ some,
        before.0.1 ∙ ap (λ (rs : List Row). done ++ rs) parts ∙ sym (append_assoc done some after),
        subst (λ (rs : List rows.Row). PutSoFar (seen c.args.table.now) rs (seen c.put_some.new.table))
            (sym (map_both done some))
            (put_some_more (seen c.args.table.now) (rows_of done) (rows_of some) (seen c.loop-rest.table)
            (seen c.put_some.new.table) before.0.2 c.in_ok-put_some.ensures.seen c.in_ok-put_some.ensures.there),
      ),
      c.put_some.ensures.committed ∙ before.1,
      λ left now. before.2 left (c.put_some.ensures.crash left now),
    )
