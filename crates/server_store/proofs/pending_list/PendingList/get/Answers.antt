use Rattle.server_store.proofs.PendingListLemmas.{contained_some, nowhere_live, nowhere_none}
use Rattle.server_store.proofs.pending_list.PendingList.get.Goals as goal

pub returns-in-Ok-clause-there : goal.returns-in-Ok-clause-there
returns-in-Ok-clause-there c =
    rw (← c.self.view_is)
    (contained_some c.self.inside.slots.items c.self.inside.len c.in-Ok.index c.index.result.now c.in-Ok.ensures.bound
    c.index.ensures c.self.invariant c.find_pending.result c.find_pending.ensures.some)

pub returns-in-Ok-clause-none : goal.returns-in-Ok-clause-none
returns-in-Ok-clause-none c =
    rw (← c.self.view_is)
    (nowhere_none c.self.inside.slots.items c.self.inside.len c.in-Ok.index c.index.result.now c.in-Ok.ensures.bound
    c.index.ensures c.self.invariant c.find_pending.result c.args.id c.in-Ok.ensures.found c.find_pending.ensures.none)

pub returns-in-Err-clause-none : goal.returns-in-Err-clause-none
returns-in-Err-clause-none c =
    rw (← c.self.view_is)
    (nowhere_live c.args.id c.self.inside.slots.items c.in-Err.field-0 (c.in-Err.ensures.missing c.self.invariant.ascend))
