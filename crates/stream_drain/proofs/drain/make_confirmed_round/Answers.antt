use Rattle.worker.proofs.DeadLettersLemmas.DeadLemmas.{on_err}
use Rattle.stream_drain.proofs.ConfirmedLemmas.{confirmed_fails, confirmed_ok, confirmed_stopped}
use Rattle.stream_drain.proofs.drain.make_confirmed_round.Goals as goal

pub returns-in_err-goes_on-in-Ok-clause-err : goal.returns-in_err-goes_on-in-Ok-clause-err
returns-in_err-goes_on-in-Ok-clause-err g c = on_err c.from_residual.result
    (confirmed_stopped c.args.worker.now.settings c.args.wait.now c.args.connection.now c.round_confirmed.new.connection _ _
    c.in-Ok.round.asked c.in-Ok.round.progress c.in_err-goes_on-in-Ok.ensures.err c.in-Ok.ensures.ok)

pub returns-in_ok-goes_on-in-Ok-clause-ok : goal.returns-in_ok-goes_on-in-Ok-clause-ok
returns-in_ok-goes_on-in-Ok-clause-ok g c =
    confirmed_ok c.args.worker.now.settings c.args.wait.now c.args.connection.now c.round_confirmed.new.connection _ _
    c.in-Ok.round.asked c.in-Ok.round.progress c.in_ok-goes_on-in-Ok.ensures.ok c.in-Ok.ensures.ok

pub returns-in-Err-clause-err : goal.returns-in-Err-clause-err
returns-in-Err-clause-err g c = confirmed_fails c.args.worker.now.settings c.args.wait.now c.args.connection.now
    c.round_confirmed.new.connection _ _ c.in-Err.error c.in-Err.ensures.err
