use Rattle.std.proofs.Common.{◌∙◌}
use Rattle.std.proofs.lemmas.Result.{err_from_is_err_and}
use Rattle.worker.specs.Session.{standing_of}
use Rattle.worker.proofs.PipelinedLemmas.{both_taken, second_untaken, waits_for}
use Rattle.worker.proofs.worker.Worker.take_both.Goals as goal

pub returns-in_err-progress-in-Ok-clause-err : goal.returns-in_err-progress-in-Ok-clause-err
returns-in_err-progress-in-Ok-clause-err g c =
    let h = g.H.Handler.history in
    let r = h c.take_next.new.handler in
    let p = err_from_is_err_and c.from_residual.result c.from_residual.ensures.1 in
    rw (p.1, p.2)
    (second_untaken g.H.Handler.with_verdict c.args.self.now.settings c.args.connection.now c.take_next.new.connection
    c.take_next-in-Ok.new.connection (standing_of c.args.self.now (h c.args.handler.now))
    (standing_of c.take_next.new.self r) (standing_of c.wait_for.new.self r)
    (standing_of c.take_next-in-Ok.new.self (h c.take_next-in-Ok.new.handler)) c.args.next c.in-Ok._progress
    c.in-Ok.ensures.ok
    (waits_for c.take_next.new.self c.wait_for.new.self r c.args.next c.wait_for.ensures.machine
    c.wait_for.ensures.group c.wait_for.ensures.asked) c.wait_for.new.self.settings
    (c.wait_for.ensures.settings ∙ c.take_next.ensures.settings) c.in_err-progress-in-Ok.field-0.0
    c.in_err-progress-in-Ok.ensures.err)

pub returns-in_ok-progress-in-Ok-clause-ok : goal.returns-in_ok-progress-in-Ok-clause-ok
returns-in_ok-progress-in-Ok-clause-ok g c =
    let h = g.H.Handler.history in
    let r = h c.take_next.new.handler in
    both_taken g.H.Handler.with_verdict c.args.self.now.settings c.args.connection.now c.take_next.new.connection
    c.take_next-in-Ok.new.connection (standing_of c.args.self.now (h c.args.handler.now))
    (standing_of c.take_next.new.self r) (standing_of c.wait_for.new.self r)
    (standing_of c.take_next-in-Ok.new.self (h c.take_next-in-Ok.new.handler)) c.args.next c.in-Ok._progress
    c.in-Ok.ensures.ok
    (waits_for c.take_next.new.self c.wait_for.new.self r c.args.next c.wait_for.ensures.machine
    c.wait_for.ensures.group c.wait_for.ensures.asked) c.wait_for.new.self.settings
    (c.wait_for.ensures.settings ∙ c.take_next.ensures.settings) c.in_ok-progress-in-Ok.progress
    c.in_ok-progress-in-Ok.ensures.ok
