use Rattle.std.proofs.Common.{◌∙◌}
use Rattle.worker_journal.proofs.KnownIdsLemmas.KnownLemmas.{found_is}
use Rattle.worker_journal.proofs.known_ids.known.KnownIds.has.Goals as goal

pub returns : goal.returns
returns c = c.is_ok.ensures.value ∙ found_is c.args.self.now.ids.items c.args.number c.search.result c.search.ensures
