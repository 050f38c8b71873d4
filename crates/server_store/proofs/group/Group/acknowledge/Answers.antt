use Rattle.server_store.proofs.AscendLemmas.{ascending_remove}
use Rattle.server_store.proofs.group.Group.acknowledge.Goals as goal

pub returns-clause-order : goal.returns-clause-order
returns-clause-order c = λ up.
    let gone = c.in-Some.ensures.gone in
    rw gone.others (ascending_remove (λ p. p.id) c.args.self.now.pending.items gone.index gone.within up)
