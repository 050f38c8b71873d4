use Rattle.model_workers.proofs.FilesLemmas.Whole.{repairs_to_whole_lines, text_is_a_form}
use Rattle.model_workers.proofs.files.laws.files_are_those_of_line_log.Goals as goal

pub returns-clause-repaired : goal.returns-clause-repaired
returns-clause-repaired c = repairs_to_whole_lines

pub returns-clause-text : goal.returns-clause-text
returns-clause-text c = text_is_a_form
