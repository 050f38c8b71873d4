use Rattle.std.proofs.Common.{arith}
use Rattle.server_store.proofs.SlotLemmas.{length-live}
use Rattle.server_store.proofs.PendingListLemmas.{inserted, inserted_sound}
use Rattle.server_store.proofs.pending_list.PendingList.insert.Goals as goal

pub overflow_add-self : goal.overflow_add-self
overflow_add-self c =
    omega (arith, c.self.invariant.counted, length-live c.self.inside.slots.items, c.self.inside.slots.ok.0, c.self.inside.slots.small)

pub invariant_of-self-2 : goal.invariant_of-self-2
invariant_of-self-2 c =
    rw c.in_ok-insert.ensures.items
    (inserted_sound c.self.inside.slots.items c.self.inside.len c.args.index c.args.held
    (rw (← c.self.view_is) at c.requires.within) (rw (← c.self.view_is) at c.requires.gap) c.self.invariant)

pub returns-clause-ok : goal.returns-clause-ok
returns-clause-ok c =
    rw (c.in_ok-insert.ensures.items, ← c.self.view_is)
    (inserted c.self.inside.slots.items c.self.inside.len c.args.index c.args.held
    (rw (← c.self.view_is) at c.requires.within) (rw (← c.self.view_is) at c.requires.gap) c.self.invariant)
