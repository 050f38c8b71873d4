use Rattle.worker.specs.Session.{standing_of}
use Rattle.worker.proofs.SessionLemmas.{failed_unanswered, stands_failed}
use Rattle.worker.proofs.worker.Worker.ask.Goals as goal

pub returns-in-Err-clause-err : goal.returns-in-Err-clause-err
returns-in-Err-clause-err g c =
    let h = g.H.Handler.history in
    let r = h c.try_ask.new.handler in
    failed_unanswered g.H.Handler.with_verdict g.H.Handler.with_commit c.args.self.now.settings c.args.connection.now
    c.try_ask.new.connection (standing_of c.args.self.now (h c.args.handler.now))
    (standing_of c.try_ask.new.self r) (standing_of c.begin_again_after.new.self r) c.in-Err.error c.begin_again_after.result
    c.begin_again_after.ensures.same
    (stands_failed c.try_ask.new.self c.begin_again_after.new.self r c.in-Err.error c.begin_again_after.ensures.machine
    c.begin_again_after.ensures.group c.begin_again_after.ensures.asked) c.in-Err.ensures.err

pub returns-in-Err-clause-failed : goal.returns-in-Err-clause-failed
returns-in-Err-clause-failed g c = rw c.begin_again_after.ensures.same c.in-Err.ensures.failed
