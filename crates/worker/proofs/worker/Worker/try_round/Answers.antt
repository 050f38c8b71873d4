use Rattle.std.proofs.lemmas.Result.{err_from_is_err_and}
use Rattle.worker.specs.Session.{standing_of}
use Rattle.worker.proofs.RoundLemmas.{breaks_so, turned}
use Rattle.worker.proofs.worker.Worker.try_round.Goals as goal

pub returns-in_err-progress-clause-err : goal.returns-in_err-progress-clause-err
returns-in_err-progress-clause-err g c =
    let h = g.H.Handler.history in
    let p = err_from_is_err_and c.from_residual-in_err-progress.result c.from_residual-in_err-progress.ensures.1 in
    rw (p.1, p.2)
    (breaks_so g.H.Handler.with_verdict g.H.Handler.with_commit c.args.self.now.settings c.args.connection.now
    c.send_next.new.connection c.take_next.new.connection (standing_of c.args.self.now (h c.args.handler.now))
    (standing_of c.send_next.new.self (h c.send_next.new.handler))
    (standing_of c.take_next.new.self (h c.take_next.new.handler)) c.in_ok-send_next.ensures.ok
    c.send_next.new.self.settings c.send_next.ensures.settings c.in_err-progress.field-0.0
    c.in_err-progress.ensures.err)

pub returns-clause-ok : goal.returns-clause-ok
returns-clause-ok g c =
    let h = g.H.Handler.history in
    turned g.H.Handler.with_verdict g.H.Handler.with_commit c.args.self.now.settings c.args.connection.now
    c.send_next.new.connection c.take_next.new.connection (standing_of c.args.self.now (h c.args.handler.now))
    (standing_of c.send_next.new.self (h c.send_next.new.handler))
    (standing_of c.take_next.new.self (h c.take_next.new.handler)) c.in_ok-send_next.ensures.ok
    c.send_next.new.self.settings c.send_next.ensures.settings c.asked-asked.result c.in_ok-progress.progress
    c.asked-asked.ensures c.in_ok-progress.ensures.ok
