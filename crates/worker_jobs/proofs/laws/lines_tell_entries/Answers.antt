use Rattle.worker_jobs.proofs.TellLemmas.{tell}
use Rattle.worker_jobs.proofs.laws.lines_tell_entries.Goals as goal

pub returns : goal.returns
returns c = tell
