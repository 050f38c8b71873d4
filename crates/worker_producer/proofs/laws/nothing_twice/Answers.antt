use Rattle.model_server.proofs.OnceLemmas.Fill.{log_is_first_records, known_is_in, done_is_all, log_only_grows}
use Rattle.model_server.proofs.OnceLemmas.Write.{log_has_each_once}
use Rattle.worker_producer.proofs.laws.nothing_twice.Goals as goal

pub returns-clause-first : goal.returns-clause-first
returns-clause-first c = log_is_first_records

pub returns-clause-once : goal.returns-clause-once
returns-clause-once c = log_has_each_once

pub returns-clause-known : goal.returns-clause-known
returns-clause-known c = known_is_in

pub returns-clause-done : goal.returns-clause-done
returns-clause-done c = done_is_all

pub returns-clause-grows : goal.returns-clause-grows
returns-clause-grows c = log_only_grows
