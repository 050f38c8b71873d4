use Rattle.model_server.proofs.OnceLemmas.Fill.{log_is_first_records, known_is_in, done_is_all}
use Rattle.model_server.proofs.OnceLemmas.Write.{log_has_each_once}
use Rattle.model_server.proofs.once.laws.log_is_the_first_records.Goals as goal

pub returns-clause-first : goal.returns-clause-first
returns-clause-first g c = log_is_first_records

pub returns-clause-once : goal.returns-clause-once
returns-clause-once g c = log_has_each_once

pub returns-clause-known : goal.returns-clause-known
returns-clause-known g c = known_is_in

pub returns-clause-done : goal.returns-clause-done
returns-clause-done g c = done_is_all
