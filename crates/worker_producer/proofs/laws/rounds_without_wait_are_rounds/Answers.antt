use Rattle.worker_producer.proofs.ConfirmedLemmas.{unconfirmed_are_rounds, unconfirmed_break_off, none_is_unconfirmed}
use Rattle.worker_producer.proofs.laws.rounds_without_wait_are_rounds.Goals as goal

pub returns-clause-finished : goal.returns-clause-finished
returns-clause-finished c = unconfirmed_are_rounds

pub returns-clause-broke : goal.returns-clause-broke
returns-clause-broke c = unconfirmed_break_off

pub returns-clause-none : goal.returns-clause-none
returns-clause-none c = none_is_unconfirmed
