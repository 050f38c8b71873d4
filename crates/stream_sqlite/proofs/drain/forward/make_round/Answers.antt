use Rattle.worker.proofs.DeadLettersLemmas.DeadLemmas.{on_err}
use Rattle.worker_table.proofs.LivedLemmas.{lived}
use Rattle.stream_sqlite.proofs.ForwardLemmas.{round_goes, round_stops}
use Rattle.stream_sqlite.proofs.drain.forward.make_round.Goals as goal

pub returns-in_err-goes_on-in-Ok-clause-err : goal.returns-in_err-goes_on-in-Ok-clause-err
returns-in_err-goes_on-in-Ok-clause-err g c = on_err c.from_residual.result
    (round_stops c.args.worker.now.settings c.args.connection.now c.round.new.connection _ _ c.in-Ok.made.asked
    c.in-Ok.made.progress c.in_err-goes_on-in-Ok.ensures.err c.in-Ok.ensures.ok)

pub returns-in_ok-goes_on-in-Ok-clause-ok : goal.returns-in_ok-goes_on-in-Ok-clause-ok
returns-in_ok-goes_on-in-Ok-clause-ok g c =
    round_goes c.args.worker.now.settings c.args.connection.now c.round.new.connection _ _ c.in-Ok.made.asked
    c.in-Ok.made.progress c.in_ok-goes_on-in-Ok.ensures.ok c.in-Ok.ensures.ok

pub returns-in-Err-clause-err : goal.returns-in-Err-clause-err
returns-in-Err-clause-err g c =
    lived.fails c.args.worker.now.settings c.args.connection.now c.round.new.connection _ _ c.in-Err.error
    c.in-Err.ensures.err
