use Rattle.model_workers.proofs.SystemLemmas.DrainedLemmas.{one_round_is_one, enough_rounds_drain}
use Rattle.model_workers.proofs.system.laws.rounds_that_hear_the_page_are_rounds.Goals as goal

pub returns-clause-round : goal.returns-clause-round
returns-clause-round c = one_round_is_one

pub returns-clause-drains : goal.returns-clause-drains
returns-clause-drains c = enough_rounds_drain
