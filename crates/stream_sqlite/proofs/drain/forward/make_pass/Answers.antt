use Rattle.std.proofs.Common.{refl, ap}
use Rattle.worker_table.proofs.RowTableLemmas.PostsLemmas.{ok_too}
use Rattle.worker.proofs.DeadLettersLemmas.DeadLemmas.{on_err}
use Rattle.worker_table.specs.Kept.{Kept}
use Rattle.worker.specs.Session.{standing_of}
use Rattle.stream_sqlite.proofs.ForwardLemmas.{err_too, passed, passed_not, stayed}
use Rattle.stream_sqlite.proofs.drain.forward.make_pass.Goals as goal

pub returns-in_err-send-clause-err : goal.returns-in_err-send-clause-err
returns-in_err-send-clause-err g c = on_err c.from_residual.result
    (stayed c.args.worker.now.settings c.args.connection.now c.send.new.connection
    (g.T.WithOutbox.committed c.args.rows.now.table) _ _
    (ap (λ (k : Kept). standing_of c.args.worker.now k) c.send.ensures.history))

pub returns-clause-ok : goal.returns-clause-ok
returns-clause-ok g c = ok_too c.make_turn.result c.make_turn.ensures.ok (λ leads.
    passed c.args.worker.now.settings c.args.connection.now c.send.new.connection c.make_turn.new.connection
    (g.T.WithOutbox.committed c.args.rows.now.table) (g.T.WithOutbox.committed c.send.new.rows.table)
    (g.T.WithOutbox.committed c.make_turn.new.rows.table) _ _ _
    (ap (λ (k : Kept). standing_of c.args.worker.now k) c.send.ensures.history) c.in_ok-send.ensures.ok leads refl)

pub returns-clause-err : goal.returns-clause-err
returns-clause-err g c = err_too c.make_turn.result c.make_turn.ensures.err
    (passed_not c.args.worker.now.settings c.args.connection.now c.send.new.connection c.make_turn.new.connection
    (g.T.WithOutbox.committed c.args.rows.now.table) (g.T.WithOutbox.committed c.send.new.rows.table) _ _ _
    (ap (λ (k : Kept). standing_of c.args.worker.now k) c.send.ensures.history) c.in_ok-send.ensures.ok)
