use Rattle.stream_sqlite.proofs.ForwardLemmas.{all_went}
use Rattle.stream_sqlite.proofs.drain.forward.send.Goals as goal

pub returns-in-Ok-clause-ok : goal.returns-in-Ok-clause-ok
returns-in-Ok-clause-ok g c = all_went c.send.result _ c.args.connection.now c.send.new.connection
    (g.T.WithOutbox.committed c.args.rows.now.table) (g.T.WithOutbox.committed c.send.new.self.table) c.in-Ok.is
    c.send.ensures.ok
