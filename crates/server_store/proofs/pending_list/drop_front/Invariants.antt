use Rattle.std.proofs.Common.{◌≡◌}
use Rattle.std.specs.VecDeque.{deque_len}
use Rattle.server_store.specs.Order.{IsAscending}
use Rattle.server_store.specs.PendingList.{live}
use Rattle.server_store.proofs.pending_list.drop_front.Given as goal

-- what was dropped was marked
abbrev pub invariant-loop-slot : goal.invariant-loop-slot
invariant-loop-slot l = record {
  items : live l.slots.items ≡ live l.initial.slots.items;
  ascend : IsAscending (λ slot. slot.held.id) l.initial.slots.items → IsAscending (λ slot. slot.held.id) l.slots.items;
}

abbrev pub decreases-loop-slot : goal.decreases-loop-slot
decreases-loop-slot l = deque_len l.slots
