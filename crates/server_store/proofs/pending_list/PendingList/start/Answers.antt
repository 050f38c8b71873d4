use Rattle.server_store.proofs.PendingListLemmas.{begins_at, begins_at_gap}
use Rattle.server_store.proofs.pending_list.PendingList.start.Goals as goal

pub returns-in-Ok : goal.returns-in-Ok
returns-in-Ok c =
    rw (← c.self.view_is)
    (begins_at c.args.id c.self.inside.slots.items c.self.inside.len _ c.in-Ok.index c.self.invariant c.in-Ok.ensures.bound
    c.in-Ok.ensures.found)

pub returns-in-Err : goal.returns-in-Err
returns-in-Err c =
    rw (← c.self.view_is)
    (begins_at_gap c.args.id c.self.inside.slots.items _ c.in-Err.index (c.in-Err.ensures.missing c.self.invariant.ascend))
