use Rattle.stream_drain.proofs.FailoverLemmas.{lines_are_of_the_log, lines_look_up, lines_lose_nothing, lines_once}
use Rattle.stream_drain.proofs.FailoverLemmas.{lines_are_the_records, starts_over_the_model}
use Rattle.stream_drain.proofs.laws.is_the_consumer_of_failover.Goals as goal

pub returns-clause-looks_up : goal.returns-clause-looks_up
returns-clause-looks_up c = lines_look_up

pub returns-clause-starts : goal.returns-clause-starts
returns-clause-starts c = starts_over_the_model

pub returns-clause-once : goal.returns-clause-once
returns-clause-once c = lines_once

pub returns-clause-of_log : goal.returns-clause-of_log
returns-clause-of_log c = lines_are_of_the_log

pub returns-clause-kept : goal.returns-clause-kept
returns-clause-kept c = lines_lose_nothing

pub returns-clause-all : goal.returns-clause-all
returns-clause-all c = lines_are_the_records
