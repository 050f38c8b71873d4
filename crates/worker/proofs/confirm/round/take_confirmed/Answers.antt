use Rattle.worker.proofs.SessionLemmas.{stands_failed}
use Rattle.worker.specs.Session.{standing_of}
use Rattle.worker.specs.declared.error.RunError.TheVariants as causes
use Rattle.worker.proofs.confirm.round.take_confirmed.Goals as goal

pub returns-in-Err-clause-err : goal.returns-in-Err-clause-err
returns-in-Err-clause-err g c = (
  standing_of c.answered.new.self (g.H.Handler.history c.answered.new.handler),
  c.in-Err.ensures.err,
  c.in-Err.ensures.group,
  c.in-Err.ensures.asked,
  c.in-Err.ensures.err_asked,
  stands_failed c.answered.new.self c.begin_again.new.self (g.H.Handler.history c.answered.new.handler)
      (causes.Answer c.in-Err.error) c.begin_again.ensures.machine c.begin_again.ensures.group c.begin_again.ensures.asked,
)
