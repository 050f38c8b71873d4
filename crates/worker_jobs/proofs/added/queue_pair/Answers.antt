use Rattle.worker_jobs.proofs.AddedLemmas.{long_pair, short_pair}
use Rattle.worker_jobs.proofs.added.queue_pair.Goals as goal

pub returns-in_default-clause-ok : goal.returns-in_default-clause-ok
returns-in_default-clause-ok c = short_pair c.args.pair.now _ c.in_default.len_below

pub returns-in_default-2-clause-ok : goal.returns-in_default-2-clause-ok
returns-in_default-2-clause-ok c = long_pair c.args.pair.now _ c.in_default.len_at_least
