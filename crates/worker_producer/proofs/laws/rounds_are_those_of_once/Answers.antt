use Rattle.worker_producer.proofs.ScheduleLemmas.{rounds_are_events, rounds_send_it, told_records_are_sent, breaks_are_events}
use Rattle.worker_producer.proofs.ScheduleLemmas.{starts_are_events, runs_are_events, sessions_run, broken_sessions_run}
use Rattle.worker_producer.proofs.laws.rounds_are_those_of_once.Goals as goal

pub returns-clause-rounds : goal.returns-clause-rounds
returns-clause-rounds c = rounds_are_events

pub returns-clause-bytes : goal.returns-clause-bytes
returns-clause-bytes c = rounds_send_it

pub returns-clause-told : goal.returns-clause-told
returns-clause-told c = told_records_are_sent

pub returns-clause-breaks : goal.returns-clause-breaks
returns-clause-breaks c = breaks_are_events

pub returns-clause-starts : goal.returns-clause-starts
returns-clause-starts c = starts_are_events

pub returns-clause-runs : goal.returns-clause-runs
returns-clause-runs c = runs_are_events

pub returns-clause-sessions : goal.returns-clause-sessions
returns-clause-sessions c = sessions_run

pub returns-clause-broken : goal.returns-clause-broken
returns-clause-broken c = broken_sessions_run
