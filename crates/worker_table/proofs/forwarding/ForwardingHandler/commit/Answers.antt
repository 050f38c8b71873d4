use Rattle.std.proofs.Common.{◌∙◌, ap, List}
use Rattle.worker_table.specs.RowTable.OfPost.{all_posted}
use Rattle.worker_table.specs.RowTable.Posts.{with_known_posted}
use Rattle.worker_table.specs.declared.row_table.post.PostedRow.{PostedRow}
use Rattle.worker_table.proofs.SendLemmas.{committed_posted}
use Rattle.worker_table.proofs.forwarding.ForwardingHandler.commit.Goals as goal

pub returns-in-Ok-clause-history : goal.returns-in-Ok-clause-history
returns-in-Ok-clause-history g c =
    let committed = g.T.WithOutbox.committed in
    let before = committed c.args.self.now.table in
    let loose = c.args.self.now.loose.items in
    committed_posted c.args.self.now.columns.items (all_posted loose) (all_posted c.clear.new.self.items) before
    (committed c.put_all_posted.new.table) (ap all_posted c.clear.ensures.items)
    (c.in-Ok.ensures.ok
    ∙ ap (λ (rows : List PostedRow). with_known_posted (all_posted rows) before) c.deref.ensures.value)
