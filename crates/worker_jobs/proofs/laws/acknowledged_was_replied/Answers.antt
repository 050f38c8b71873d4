use Rattle.worker_jobs.proofs.AcknowledgedLemmas.{law_holds}
use Rattle.worker_jobs.proofs.laws.acknowledged_was_replied.Goals as goal

pub returns : goal.returns
returns c = law_holds
