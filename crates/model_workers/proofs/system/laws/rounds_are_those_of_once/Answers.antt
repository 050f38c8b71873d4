use Rattle.model_workers.proofs.SystemLemmas.OnceLemmas.{rounds_are_events, failures_are_events, starts_are_events, runs_are_events}
use Rattle.model_workers.proofs.SystemLemmas.OnceLemmas.{rounds_run, sessions_run, starts_read_enough}
use Rattle.model_workers.proofs.system.laws.rounds_are_those_of_once.Goals as goal

pub returns-clause-rounds : goal.returns-clause-rounds
returns-clause-rounds c = rounds_are_events

pub returns-clause-failures : goal.returns-clause-failures
returns-clause-failures c = failures_are_events

pub returns-clause-starts : goal.returns-clause-starts
returns-clause-starts c = starts_are_events

pub returns-clause-one : goal.returns-clause-one
returns-clause-one c = rounds_run

pub returns-clause-sessions : goal.returns-clause-sessions
returns-clause-sessions c = sessions_run

pub returns-clause-runs : goal.returns-clause-runs
returns-clause-runs c = runs_are_events

pub returns-clause-enough : goal.returns-clause-enough
returns-clause-enough c = starts_read_enough
