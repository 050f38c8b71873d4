use Rattle.worker_producer.proofs.StepLemmas.{requests_stay, answers_stay, breaks_stay}
use Rattle.worker_producer.proofs.laws.stays_in_step.Goals as goal

pub returns-clause-requests : goal.returns-clause-requests
returns-clause-requests c = requests_stay

pub returns-clause-answers : goal.returns-clause-answers
returns-clause-answers c = answers_stay

pub returns-clause-breaks : goal.returns-clause-breaks
returns-clause-breaks c = breaks_stay
