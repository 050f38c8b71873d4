use Rattle.worker.proofs.StepLemmas.{answers_stay, cuts_stay, requests_stay}
use Rattle.worker.proofs.laws.stays_in_step.Goals as goal

pub returns-clause-answers : goal.returns-clause-answers
returns-clause-answers c = answers_stay

pub returns-clause-cuts : goal.returns-clause-cuts
returns-clause-cuts c = cuts_stay

pub returns-clause-requests : goal.returns-clause-requests
returns-clause-requests c = requests_stay
