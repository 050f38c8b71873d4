use Rattle.model_workers.proofs.SystemLemmas.Kept.{letters_are_of_the_log}
use Rattle.model_workers.proofs.SystemLemmas.Kept as kept
use Rattle.model_workers.proofs.system.laws.letters_stay.Goals as goal

pub returns-clause-stay : goal.returns-clause-stay
returns-clause-stay c = kept.letters_stay

pub returns-clause-of_the_log : goal.returns-clause-of_the_log
returns-clause-of_the_log c = letters_are_of_the_log
