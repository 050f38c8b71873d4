use Rattle.model_workers.proofs.FilesLemmas.Kept as kept
use Rattle.model_workers.proofs.files.laws.each_entry_is_kept.Goals as goal

pub returns : goal.returns
returns c = kept.each_entry_is_kept
