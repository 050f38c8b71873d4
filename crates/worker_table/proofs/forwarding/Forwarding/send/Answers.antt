use Rattle.worker_table.specs.RowTable.OfPost.{all_posted}
use Rattle.worker_table.proofs.SendLemmas.{sent_keeps}
use Rattle.worker_table.proofs.forwarding.Forwarding.send.Goals as goal

pub returns-clause-history : goal.returns-clause-history
returns-clause-history g c = sent_keeps c.args.self.now.columns.items (all_posted c.args.self.now.loose.items)
    c.send_posts.result c.args.connection.now c.send_posts.new.connection
    (g.T.WithOutbox.committed c.args.self.now.table) (g.T.WithOutbox.committed c.send_posts.new.table)
    c.send_posts.ensures.ok c.send_posts.ensures.err
