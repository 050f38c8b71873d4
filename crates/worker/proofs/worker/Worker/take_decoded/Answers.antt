use Rattle.worker.proofs.InPlaceLemmas.{answer_taken, failed_at, went_at}
use Rattle.worker.proofs.worker.Worker.take_decoded.Goals as goal

pub returns-in_err-answered-in-Ok-Complete-clause-taken :
    goal.returns-in_err-answered-in-Ok-Complete-clause-taken
returns-in_err-answered-in-Ok-Complete-clause-taken g c =
    let sound = rw c.in-Ok-Complete.field-0-is at c.in-Ok-Complete.ensures.sound in
    answer_taken g.H.Handler.with_verdict _ _ _ _ _ c.from_residual.result c.in_err-answered-in-Ok-Complete.field-0.0
    c.from_residual.ensures.1
    (failed_at g.H.Handler.with_verdict _ _ _ _ _ _ _ c.in_err-answered-in-Ok-Complete.field-0.0
    sound.1.reply c.in_err-answered-in-Ok-Complete.ensures.err c.in_err-answered-in-Ok-Complete.ensures.group
    c.answered.ensures.asked c.in_err-answered-in-Ok-Complete.ensures.err_asked)

pub returns-in_ok-answered-in-Ok-Complete-clause-taken :
    goal.returns-in_ok-answered-in-Ok-Complete-clause-taken
returns-in_ok-answered-in-Ok-Complete-clause-taken g c =
    let sound = rw c.in-Ok-Complete.field-0-is at c.in-Ok-Complete.ensures.sound in
    went_at g.H.Handler.with_verdict _ _ _ _ _ _ _ c.in_ok-answered-in-Ok-Complete.field-0
    sound.1.reply c.in_ok-answered-in-Ok-Complete.ensures.ok c.in_ok-answered-in-Ok-Complete.ensures.group
    c.answered.ensures.asked
