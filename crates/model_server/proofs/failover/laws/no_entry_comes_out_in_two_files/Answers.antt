use Rattle.model_server.proofs.FailoverLemmas.Many.{each_file_once, none_in_two_files}
use Rattle.model_server.proofs.failover.laws.no_entry_comes_out_in_two_files.Goals as goal

pub returns-clause-once : goal.returns-clause-once
returns-clause-once g c = each_file_once

pub returns-clause-one : goal.returns-clause-one
returns-clause-one g c = none_in_two_files
