use Rattle.std.proofs.Common.{◌∙◌, ◌≡◌, ◌+◌, ◌++◌, ◌∷◌, [], ap, sym, subst, List, take, get_or}
use Rattle.std.proofs.lemmas.List.{map_more}
use Rattle.worker_table.specs.RowTable.OfPost.{all_posted, posted_of}
use Rattle.worker_table.specs.RowTable.Posts.{Posted}
use Rattle.worker_table.specs.declared.row_table.post.PostedRow.{PostedRow}
use Rattle.worker_table.proofs.RowTableLemmas.PostsLemmas.{PostedSoFar, posted_more}
use Rattle.worker_table.proofs.row_table.put_posted.put_each_posted.Goals as goal

pub loop-row-preserved : goal.loop-row-preserved
loop-row-preserved g c =
    let seen = g.T.WithOutbox.seen in
    let rows = c.args.rows.now in
    let at = c.loop-row.row-index in
    let row = c.row-item.result in
    let before = c.loop-row.invariant in
    let further : all_posted (take (at + 1) rows) ≡ all_posted (take at rows) ++ posted_of row ∷ [] =
    map_more posted_of rows at row c.loop-row-test.true
    ∙ ap (λ (p : PostedRow). all_posted (take at rows) ++ posted_of p ∷ []) (sym c.row-item.is) in (
      subst (λ (done : List Posted). PostedSoFar (seen c.args.table.now) done (seen c.put_posted.new.table))
          (sym further)
          (posted_more (seen c.args.table.now) (seen c.loop-row.table) (seen c.put_posted.new.table)
          (all_posted (take at rows)) (posted_of row) before.0 c.in_ok-put_posted.ensures.seen
          c.in_ok-put_posted.ensures.there),
      c.put_posted.ensures.committed ∙ before.1,
      λ left now. before.2 left (c.put_posted.ensures.crash left now),
    )
