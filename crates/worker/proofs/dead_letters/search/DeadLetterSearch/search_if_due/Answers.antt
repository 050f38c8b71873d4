use Rattle.worker.specs.DeadLetters.Besides.{nothing}
use Rattle.worker.proofs.dead_letters.search.DeadLetterSearch.search_if_due.Goals as goal

pub returns-then-self-clause-ok : goal.returns-then-self-clause-ok
returns-then-self-clause-ok g c = nothing c.args.connection.now
