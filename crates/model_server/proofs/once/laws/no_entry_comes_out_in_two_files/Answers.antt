use Rattle.model_server.proofs.OnceLemmas.Many.{each_file_once, each_file_of_log, none_in_two_files}
use Rattle.model_server.proofs.once.laws.no_entry_comes_out_in_two_files.Goals as goal

pub returns-clause-once : goal.returns-clause-once
returns-clause-once g c = each_file_once

pub returns-clause-of_log : goal.returns-clause-of_log
returns-clause-of_log g c = each_file_of_log

pub returns-clause-one : goal.returns-clause-one
returns-clause-one g c = none_in_two_files
