use Rattle.model_workers.proofs.FailoverLemmas.KeepsLemmas.{entries_look_up}
use Rattle.model_workers.proofs.failover.laws.entries_are_looked_up.Goals as goal

pub returns : goal.returns
returns c = entries_look_up
