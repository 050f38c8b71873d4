use Rattle.server_store.proofs.PendingListLemmas.{behind_gap, behind_it}
use Rattle.server_store.proofs.pending_list.PendingList.start_behind.Goals as goal

pub returns-in-Ok : goal.returns-in-Ok
returns-in-Ok c =
    rw (← c.self.view_is)
    (behind_it c.args.id c.self.inside.slots.items c.self.inside.len c.in-Ok.index c.self.invariant c.in-Ok.ensures.bound
    c.in-Ok.ensures.found)

pub returns-in-Err : goal.returns-in-Err
returns-in-Err c =
    rw (← c.self.view_is)
    (behind_gap c.args.id c.self.inside.slots.items c.in-Err.index (c.in-Err.ensures.missing c.self.invariant.ascend))
