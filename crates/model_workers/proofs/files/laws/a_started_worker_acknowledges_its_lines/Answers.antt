use Rattle.model_workers.proofs.FilesLemmas.Started.{begins_with_its_lines, begins_with_all_it_reads}
use Rattle.model_workers.proofs.files.laws.a_started_worker_acknowledges_its_lines.Goals as goal

pub returns-clause-only : goal.returns-clause-only
returns-clause-only c = begins_with_its_lines

pub returns-clause-all : goal.returns-clause-all
returns-clause-all c = begins_with_all_it_reads
