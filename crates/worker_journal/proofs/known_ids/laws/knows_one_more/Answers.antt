use Rattle.worker_journal.proofs.KnownIdsLemmas.NumberLemmas.{knows_one_more}
use Rattle.worker_journal.proofs.known_ids.laws.knows_one_more.Goals as goal

pub returns : goal.returns
returns c = knows_one_more
