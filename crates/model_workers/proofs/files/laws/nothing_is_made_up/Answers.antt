use Rattle.model_workers.proofs.FilesLemmas.Kept.{letters_are_of_the_log}
use Rattle.model_workers.proofs.FilesLemmas.OfLog.{files_are_of_the_log, lines_are_of_the_log}
use Rattle.model_workers.proofs.files.laws.nothing_is_made_up.Goals as goal

pub returns-clause-letters : goal.returns-clause-letters
returns-clause-letters c = letters_are_of_the_log

pub returns-clause-files : goal.returns-clause-files
returns-clause-files c = files_are_of_the_log

pub returns-clause-lines : goal.returns-clause-lines
returns-clause-lines c = lines_are_of_the_log
