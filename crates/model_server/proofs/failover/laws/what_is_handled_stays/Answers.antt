use Rattle.model_server.proofs.FailoverLemmas.Stays.{file_is_of_log, handled_is_not_new}
use Rattle.model_server.proofs.failover.laws.what_is_handled_stays.Goals as goal

pub returns-clause-of_log : goal.returns-clause-of_log
returns-clause-of_log g c = file_is_of_log

pub returns-clause-not_new : goal.returns-clause-not_new
returns-clause-not_new g c = handled_is_not_new
