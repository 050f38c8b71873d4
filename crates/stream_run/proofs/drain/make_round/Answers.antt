use Rattle.std.proofs.Common.{inl}
use Rattle.stream_run.proofs.RoundsLemmas.{one_round, pipelined_rounds, round_fails}
use Rattle.stream_run.proofs.drain.make_round.Goals as goal

pub returns-in-Ok-clause-ok : goal.returns-in-Ok-clause-ok
returns-in-Ok-clause-ok g c = pipelined_rounds c.args.worker.now.settings c.args.connection.now c.round_pipelined.new.connection
    _ _ c.in-Ok.made.acknowledged c.in-Ok.made.round.asked c.in-Ok.made.round.progress c.in-Ok.ensures.ok

pub returns-in-Err-clause-err : goal.returns-in-Err-clause-err
returns-in-Err-clause-err g c = round_fails c.args.worker.now.settings c.args.connection.now c.round_pipelined.new.connection _ _
    c.in-Err.error c.in-Err.ensures.err

pub returns-in-Ok-round-clause-ok : goal.returns-in-Ok-round-clause-ok
returns-in-Ok-round-clause-ok g c = one_round c.args.worker.now.settings c.args.connection.now c.round.new.connection _ _
    c.in-Ok-round.round.asked c.in-Ok-round.round.progress c.in-Ok-round.ensures.ok

pub returns-in-Err-round-clause-err : goal.returns-in-Err-round-clause-err
returns-in-Err-round-clause-err g c = round_fails c.args.worker.now.settings c.args.connection.now c.round.new.connection _ _
    c.in-Err-round.error (inl c.in-Err-round.ensures.err)
