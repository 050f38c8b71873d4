use Rattle.model_server.proofs.FailoverLemmas.Added.{log_is_first_records, known_stays_in}
use Rattle.model_server.proofs.failover.laws.what_is_confirmed_stays.Goals as goal

pub returns-clause-first : goal.returns-clause-first
returns-clause-first g c = log_is_first_records

pub returns-clause-known : goal.returns-clause-known
returns-clause-known g c = known_stays_in
