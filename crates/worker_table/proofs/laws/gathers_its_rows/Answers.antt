use Rattle.worker_table.proofs.KeptLemmas.{gathers}
use Rattle.worker_table.proofs.laws.gathers_its_rows.Goals as goal

pub returns : goal.returns
returns c = gathers
