use Rattle.worker_table.specs.RowTable.OfPost.{posted_of}
use Rattle.worker_table.proofs.RowTableLemmas.PostsLemmas.{new_there, ok_too}
use Rattle.worker_table.proofs.row_table.put_posted.put_posted.Goals as goal

pub returns-then-branch-clause-there : goal.returns-then-branch-clause-there
returns-then-branch-clause-there g c =
    let seen = g.T.WithOutbox.seen in
    ok_too c.enqueue.result c.enqueue.ensures.seen
    (new_there (seen c.args.table.now) (seen c.insert.new.self) (seen c.enqueue.new.self) (posted_of c.args.row.now)
    (rw c.if-branch.true at c.in_ok-insert.ensures.told) c.in_ok-insert.ensures.seen)
