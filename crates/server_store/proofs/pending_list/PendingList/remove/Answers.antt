use Rattle.std.proofs.Common.{sym}
use Rattle.server_store.proofs.PendingListLemmas.{nowhere_live, nowhere_marked, removed, removed_sound, removed_without, some_live}
use Rattle.server_store.proofs.WithoutLemmas.{without_none}
use Rattle.server_store.proofs.pending_list.PendingList.remove.Goals as goal

pub returns-in_default-clause-without : goal.returns-in_default-clause-without
returns-in_default-clause-without c =
    rw (← c.self.view_is)
    (sym (without_none c.args.id _
    (nowhere_live c.args.id c.self.inside.slots.items c.in_default.field-0 (c.in_default.ensures.missing c.self.invariant.ascend))))

pub returns-in_default-clause-none : goal.returns-in_default-clause-none
returns-in_default-clause-none c =
    rw (← c.self.view_is)
    (nowhere_live c.args.id c.self.inside.slots.items c.in_default.field-0 (c.in_default.ensures.missing c.self.invariant.ascend))

pub returns-in_default-find_pending-clause-without : goal.returns-in_default-find_pending-clause-without
returns-in_default-find_pending-clause-without c =
    rw (← c.self.view_is)
    (sym (without_none c.args.id _
    (nowhere_marked c.self.inside.slots.items c.self.inside.len c.in-Ok.index c.index.result.now c.in-Ok.ensures.bound
    c.index.ensures c.self.invariant c.args.id c.in-Ok.ensures.found c.in_default-find_pending.ensures.none)))

pub returns-in_default-find_pending-clause-none : goal.returns-in_default-find_pending-clause-none
returns-in_default-find_pending-clause-none c =
    rw (← c.self.view_is)
    (nowhere_marked c.self.inside.slots.items c.self.inside.len c.in-Ok.index c.index.result.now c.in-Ok.ensures.bound
    c.index.ensures c.self.invariant c.args.id c.in-Ok.ensures.found c.in_default-find_pending.ensures.none)

pub overflow_sub-self : goal.overflow_sub-self
overflow_sub-self c =
    some_live c.self.inside.slots.items c.self.inside.slots.items c.self.inside.len c.in-Ok.index c.index.result.now
    c.index_mut-slot.result.now c.in-Some.was c.in-Ok.ensures.bound c.index.ensures c.index_mut-slot.ensures.value
    c.self.invariant c.in-Some.ensures.some

pub invariant_of-self : goal.invariant_of-self
invariant_of-self c =
    removed_sound c.self.inside.slots.items c.drop_marked.new.slots.items c.self.inside.len c.in-Ok.index c.index.result.now
    c.index_mut-slot.result.now c.in-Some.was c.in-Ok.ensures.bound c.index.ensures c.index_mut-slot.ensures.value
    c.self.invariant c.in-Some.ensures.some c.drop_marked.ensures.items c.drop_marked.ensures.ascend

pub returns-clause-gone : goal.returns-clause-gone
returns-clause-gone c =
    rw (← c.self.view_is)
    (removed c.self.inside.slots.items c.drop_marked.new.slots.items c.self.inside.len c.in-Ok.index c.index.result.now
    c.index_mut-slot.result.now c.in-Some.was c.in-Ok.ensures.bound c.index.ensures c.index_mut-slot.ensures.value
    c.self.invariant c.in-Some.ensures.some c.drop_marked.ensures.items)

pub returns-clause-without : goal.returns-clause-without
returns-clause-without c =
    rw (← c.self.view_is)
    (removed_without c.self.inside.slots.items c.drop_marked.new.slots.items c.self.inside.len c.in-Ok.index c.index.result.now
    c.index_mut-slot.result.now c.in-Some.was c.in-Ok.ensures.bound c.index.ensures c.index_mut-slot.ensures.value
    c.self.invariant c.in-Some.ensures.some c.drop_marked.ensures.items c.args.id c.in-Ok.ensures.found)
