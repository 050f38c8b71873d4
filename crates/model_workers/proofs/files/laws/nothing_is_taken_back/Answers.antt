use Rattle.model_workers.proofs.FilesLemmas.Kept.{files_grow, letters_stay}
use Rattle.model_workers.proofs.files.laws.nothing_is_taken_back.Goals as goal

pub returns-clause-files : goal.returns-clause-files
returns-clause-files c = files_grow

pub returns-clause-letters : goal.returns-clause-letters
returns-clause-letters c = letters_stay
