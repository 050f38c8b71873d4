use Rattle.std.proofs.Common.{arith, ap, ◌∙◌}
use Rattle.server_store.specs.declared.pending_list.Slot.{Slot}
use Rattle.server_store.proofs.SlotLemmas.{length-live}
use Rattle.server_store.proofs.PendingListLemmas.{replaced_sound, replaced_was, revived, revived_sound}
use Rattle.server_store.proofs.pending_list.PendingList.put_at.Goals as goal

pub invariant_of-self : goal.invariant_of-self
invariant_of-self c =
    rw c.fill.ensures
    (replaced_sound c.self.inside.slots.items c.self.inside.len c.args.index c.index.result.now
    (rw (← c.self.view_is) at c.requires.within) c.index.ensures c.self.invariant c.args.pending
    (ap (λ (x : Slot). x.held.id) c.index.ensures ∙ (rw (← c.self.view_is) at c.requires.named) c.index.result.now)
    c.in-Some.ensures.some.0)

pub overflow_add-self : goal.overflow_add-self
overflow_add-self c =
    omega (arith, c.self.invariant.counted, length-live c.self.inside.slots.items, c.self.inside.slots.ok.0, c.self.inside.slots.small)

pub invariant_of-self-in-None : goal.invariant_of-self-in-None
invariant_of-self-in-None c =
    rw c.fill-in-None.ensures
    (revived_sound c.self.inside.slots.items c.self.inside.len c.args.index c.index.result.now
    (rw (← c.self.view_is) at c.requires.within) c.index.ensures c.self.invariant c.args.pending
    (ap (λ (x : Slot). x.held.id) c.index.ensures ∙ (rw (← c.self.view_is) at c.requires.named) c.index.result.now)
    c.in-None.ensures.none)

pub returns-in-Some-clause-is : goal.returns-in-Some-clause-is
returns-in-Some-clause-is c =
    rw (c.fill.ensures, ← c.self.view_is)
    (replaced_was c.self.inside.slots.items c.self.inside.len c.args.index c.index.result.now
    (rw (← c.self.view_is) at c.requires.within) c.index.ensures c.self.invariant c.args.pending
    (ap (λ (x : Slot). x.held.id) c.index.ensures ∙ (rw (← c.self.view_is) at c.requires.named) c.index.result.now)
    c.in-Some.was c.in-Some.ensures.some)

pub returns-in-None-clause-is : goal.returns-in-None-clause-is
returns-in-None-clause-is c =
    rw (c.fill-in-None.ensures, ← c.self.view_is)
    (revived c.self.inside.slots.items c.self.inside.len c.args.index c.index.result.now
    (rw (← c.self.view_is) at c.requires.within) c.index.ensures c.self.invariant c.args.pending
    (ap (λ (x : Slot). x.held.id) c.index.ensures ∙ (rw (← c.self.view_is) at c.requires.named) c.index.result.now)
    c.in-None.ensures.none)
