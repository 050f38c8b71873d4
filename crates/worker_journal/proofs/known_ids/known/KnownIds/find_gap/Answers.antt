use Rattle.worker_journal.proofs.KnownIdsLemmas.KnownLemmas.{gap_found}
use Rattle.worker_journal.proofs.known_ids.known.KnownIds.find_gap.Goals as goal

pub returns-in-Ok : goal.returns-in-Ok
returns-in-Ok c = gap_found c.args.self.now.ids.items c.args.number c.in-Ok.at c.args.self.now.rises
    c.in-Ok.ensures.0 c.in-Ok.ensures.1
