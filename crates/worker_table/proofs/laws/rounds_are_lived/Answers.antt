use Rattle.worker_table.proofs.LivedLemmas.{lived}
use Rattle.worker_table.proofs.laws.rounds_are_lived.Goals as goal

pub returns : goal.returns
returns c = lived
