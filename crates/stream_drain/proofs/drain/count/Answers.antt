use Rattle.worker.specs.DeadLetters.Besides.{nothing}
use Rattle.worker.proofs.DeadLettersLemmas.BesidesLemmas.{no_more}
use Rattle.worker.proofs.DeadLettersLemmas.DeadLemmas.{on_err}
use Rattle.stream_drain.proofs.drain.count.Goals as goal

pub returns-then-not-due-clause-ok : goal.returns-then-not-due-clause-ok
returns-then-not-due-clause-ok g c = nothing c.args.connection.now

pub returns-in_err-count-clause-err : goal.returns-in_err-count-clause-err
returns-in_err-count-clause-err g c = on_err c.from_residual.result (no_more c.args.connection.now)

pub returns-else-branch-clause-ok : goal.returns-else-branch-clause-ok
returns-else-branch-clause-ok g c = nothing c.args.connection.now
