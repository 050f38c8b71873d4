use Rattle.worker.proofs.SessionLemmas.{failures_begin_again}
use Rattle.worker.proofs.laws.begins_again.Goals as goal

pub returns : goal.returns
returns c = failures_begin_again
