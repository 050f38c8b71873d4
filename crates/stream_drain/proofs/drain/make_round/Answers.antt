use Rattle.worker.proofs.DeadLettersLemmas.DeadLemmas.{on_err}
use Rattle.stream_drain.proofs.LivedLemmas.{pipelined_fails, pipelined_ok, pipelined_stopped, round_fails, round_ok}
use Rattle.stream_drain.proofs.LivedLemmas.{round_stopped}
use Rattle.stream_drain.proofs.drain.make_round.Goals as goal

pub returns-in_err-goes_on-in-Ok-clause-err : goal.returns-in_err-goes_on-in-Ok-clause-err
returns-in_err-goes_on-in-Ok-clause-err g c = on_err c.from_residual.result
    (pipelined_stopped c.args.worker.now.settings c.args.connection.now c.round_pipelined.new.connection _ _
    c.in-Ok.made.acknowledged c.in-Ok.made.round.asked c.in-Ok.made.round.progress c.in_err-goes_on-in-Ok.ensures.err
    c.in-Ok.ensures.ok)

pub returns-in_ok-goes_on-in-Ok-clause-ok : goal.returns-in_ok-goes_on-in-Ok-clause-ok
returns-in_ok-goes_on-in-Ok-clause-ok g c =
    pipelined_ok c.args.worker.now.settings c.args.connection.now c.round_pipelined.new.connection _ _
    c.in-Ok.made.acknowledged c.in-Ok.made.round.asked c.in-Ok.made.round.progress c.in_ok-goes_on-in-Ok.ensures.ok
    c.in-Ok.ensures.ok

pub returns-in-Err-clause-err : goal.returns-in-Err-clause-err
returns-in-Err-clause-err g c = pipelined_fails c.args.worker.now.settings c.args.connection.now
    c.round_pipelined.new.connection _ _ c.in-Err.error c.in-Err.ensures.err

pub returns-in_err-goes_on-in-Ok-round-clause-err : goal.returns-in_err-goes_on-in-Ok-round-clause-err
returns-in_err-goes_on-in-Ok-round-clause-err g c = on_err c.from_residual-in_err-goes_on-in-Ok-round.result
    (round_stopped c.args.worker.now.settings c.args.connection.now c.round.new.connection _ _
    c.in-Ok-round.round.asked c.in-Ok-round.round.progress c.in_err-goes_on-in-Ok-round.ensures.err
    c.in-Ok-round.ensures.ok)

pub returns-in_ok-goes_on-in-Ok-round-clause-ok : goal.returns-in_ok-goes_on-in-Ok-round-clause-ok
returns-in_ok-goes_on-in-Ok-round-clause-ok g c =
    round_ok c.args.worker.now.settings c.args.connection.now c.round.new.connection _ _
    c.in-Ok-round.round.asked c.in-Ok-round.round.progress c.in_ok-goes_on-in-Ok-round.ensures.ok c.in-Ok-round.ensures.ok

pub returns-in-Err-round-clause-err : goal.returns-in-Err-round-clause-err
returns-in-Err-round-clause-err g c = round_fails c.args.worker.now.settings c.args.connection.now
    c.round.new.connection _ _ c.in-Err-round.error c.in-Err-round.ensures.err
