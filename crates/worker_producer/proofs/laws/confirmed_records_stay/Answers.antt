use Rattle.worker_producer.proofs.FailoverLemmas.{runs_are_events, runs_wait, code_knows_what_stays, asking_nothing_stays_all}
use Rattle.worker_producer.proofs.laws.confirmed_records_stay.Goals as goal

pub returns-clause-runs : goal.returns-clause-runs
returns-clause-runs c = runs_are_events

pub returns-clause-waits : goal.returns-clause-waits
returns-clause-waits c = runs_wait

pub returns-clause-known : goal.returns-clause-known
returns-clause-known c = code_knows_what_stays

pub returns-clause-all : goal.returns-clause-all
returns-clause-all c = asking_nothing_stays_all
