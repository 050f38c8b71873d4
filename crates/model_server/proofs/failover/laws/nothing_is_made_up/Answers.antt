use Rattle.model_server.proofs.FailoverLemmas.Records.{log_is_of_records, file_is_of_records, comes_as_written}
use Rattle.model_server.proofs.failover.laws.nothing_is_made_up.Goals as goal

pub returns-clause-log : goal.returns-clause-log
returns-clause-log g c = log_is_of_records

pub returns-clause-file : goal.returns-clause-file
returns-clause-file g c = file_is_of_records

pub returns-clause-as_written : goal.returns-clause-as_written
returns-clause-as_written g c = comes_as_written
