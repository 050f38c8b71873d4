use Rattle.worker.specs.DeadLetters.Besides.{nothing}
use Rattle.stream_drain.proofs.drain.look.Goals as goal

pub returns-in_default-clause-ok : goal.returns-in_default-clause-ok
returns-in_default-clause-ok g c = nothing c.args.connection.now
