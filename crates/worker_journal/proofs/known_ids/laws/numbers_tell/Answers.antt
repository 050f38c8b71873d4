use Rattle.worker_journal.proofs.KnownIdsLemmas.NumberLemmas.{numbers_tell}
use Rattle.worker_journal.proofs.known_ids.laws.numbers_tell.Goals as goal

pub returns : goal.returns
returns c = numbers_tell
