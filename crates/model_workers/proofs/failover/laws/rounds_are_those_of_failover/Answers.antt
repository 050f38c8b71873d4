use Rattle.model_workers.proofs.FailoverLemmas.ScheduleLemmas.{runs_are_events, runs_wait}
use Rattle.model_workers.proofs.failover.laws.rounds_are_those_of_failover.Goals as goal

pub returns-clause-runs : goal.returns-clause-runs
returns-clause-runs g c = runs_are_events

pub returns-clause-waits : goal.returns-clause-waits
returns-clause-waits g c = runs_wait
