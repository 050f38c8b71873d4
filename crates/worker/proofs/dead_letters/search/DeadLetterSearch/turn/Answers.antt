use Rattle.worker.specs.DeadLetters.Besides.{nothing}
use Rattle.worker.proofs.dead_letters.search.DeadLetterSearch.turn.Goals as goal

pub returns-then-in_hand-clause-ok : goal.returns-then-in_hand-clause-ok
returns-then-in_hand-clause-ok g c = nothing c.args.connection.now
