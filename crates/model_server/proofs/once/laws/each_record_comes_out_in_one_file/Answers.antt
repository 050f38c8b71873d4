use Rattle.model_server.proofs.OnceLemmas.Kept.{each_is_kept_by_one, each_comes_out_in_one_file}
use Rattle.model_server.proofs.once.laws.each_record_comes_out_in_one_file.Goals as goal

pub returns-clause-kept : goal.returns-clause-kept
returns-clause-kept g c = each_is_kept_by_one

pub returns-clause-one : goal.returns-clause-one
returns-clause-one g c = each_comes_out_in_one_file
