use Rattle.model_workers.proofs.FilesLemmas.Kept.{acknowledged_is_in_a_file}
use Rattle.model_workers.proofs.files.laws.what_is_acknowledged_is_in_a_file.Goals as goal

pub returns : goal.returns
returns c = acknowledged_is_in_a_file
