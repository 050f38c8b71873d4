use Rattle.std.proofs.Common.{inl}
use Rattle.stream_run.specs.Rounds.{ends}
use Rattle.stream_run.proofs.RoundsLemmas.{one_round, round_fails}
use Rattle.stream_run.proofs.drain.settle.Goals as goal

pub returns-then-jobs-clause-ok : goal.returns-then-jobs-clause-ok
returns-then-jobs-clause-ok g c = ends c.args.connection.now _

pub returns-in-Ok-clause-ok : goal.returns-in-Ok-clause-ok
returns-in-Ok-clause-ok g c =
    one_round c.args.worker.now.settings c.args.connection.now c.round.new.connection _ _ _ _ c.in-Ok.ensures.ok

pub returns-in-Err-clause-err : goal.returns-in-Err-clause-err
returns-in-Err-clause-err g c = round_fails c.args.worker.now.settings c.args.connection.now c.round.new.connection _ _
    c.in-Err.error (inl c.in-Err.ensures.err)
