use Rattle.model_workers.proofs.SystemLemmas.Kept.{acknowledged_is_settled}
use Rattle.model_workers.proofs.SystemLemmas.Kept as kept
use Rattle.model_workers.proofs.system.laws.each_entry_is_kept.Goals as goal

pub returns-clause-kept : goal.returns-clause-kept
returns-clause-kept c = kept.each_entry_is_kept

pub returns-clause-acknowledged : goal.returns-clause-acknowledged
returns-clause-acknowledged c = acknowledged_is_settled
