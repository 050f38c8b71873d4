use Rattle.model_server.proofs.FailoverLemmas.Undeleted.{log_is_kept, producer_loses_nothing}
use Rattle.model_server.proofs.failover.laws.nothing_of_the_log_is_lost.Goals as goal

pub returns-clause-kept : goal.returns-clause-kept
returns-clause-kept g c = log_is_kept

pub returns-clause-added : goal.returns-clause-added
returns-clause-added g c = producer_loses_nothing
