use Rattle.worker_table.proofs.AcknowledgedLemmas.{law_holds}
use Rattle.worker_table.proofs.laws.acknowledged_is_a_row.Goals as goal

pub returns : goal.returns
returns c = law_holds
