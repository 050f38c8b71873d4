use Rattle.model_server.proofs.OnceLemmas.Lasts.{each_is_kept, each_comes_out_once}
use Rattle.model_server.proofs.once.laws.each_record_comes_out.Goals as goal

pub returns-clause-kept : goal.returns-clause-kept
returns-clause-kept g c = each_is_kept

pub returns-clause-once : goal.returns-clause-once
returns-clause-once g c = each_comes_out_once
