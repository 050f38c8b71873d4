use Rattle.server_store.proofs.PendingListLemmas.{popped_sound}
use Rattle.server_store.proofs.pending_list.PendingList.pop_first.Goals as goal

pub invariant_of-self-2 : goal.invariant_of-self-2
invariant_of-self-2 c =
    popped_sound c.self.inside.slots.items c.drop_front.new.slots.items c.pop_front.new.self.items c.in_ok-slot.slot
    c.self.inside.len c.self.invariant c.drop_front.ensures.items c.drop_front.ensures.ascend c.in_ok-slot.ensures.items
    c.drop_front.ensures.first
