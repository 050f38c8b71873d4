use Rattle.worker_jobs.proofs.AddedLemmas.{long_members}
use Rattle.worker_jobs.proofs.added.queue_members.Goals as goal

pub returns-in_default-3-clause-ok : goal.returns-in_default-3-clause-ok
returns-in_default-3-clause-ok c = long_members c.args.members.now _ c.in_default.len_at_least
