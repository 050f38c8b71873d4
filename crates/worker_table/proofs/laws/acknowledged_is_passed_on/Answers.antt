use Rattle.worker_table.proofs.ForwardedLemmas.{passed_on}
use Rattle.worker_table.proofs.laws.acknowledged_is_passed_on.Goals as goal

pub returns : goal.returns
returns c = passed_on
