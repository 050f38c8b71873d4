use Rattle.worker.proofs.LifeLemmas.{only_committed, sessions_lived}
use Rattle.worker.proofs.laws.acknowledges_what_is_committed.Goals as goal

pub returns-clause-acknowledged : goal.returns-clause-acknowledged
returns-clause-acknowledged c = only_committed

pub returns-clause-sessions : goal.returns-clause-sessions
returns-clause-sessions c = sessions_lived
