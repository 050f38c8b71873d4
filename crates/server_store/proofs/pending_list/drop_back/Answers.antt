use Rattle.std.proofs.Common.{◌-◌, ◌<◌, ◌∙◌, arith, rules}
use Rattle.server_store.proofs.PendingListLemmas.{ascending_take, back_marked}
use Rattle.server_store.proofs.pending_list.drop_back.Goals as goal

pub loop-slot-preserved-else-slot : goal.loop-slot-preserved-else-slot
loop-slot-preserved-else-slot c =
    let some : 0 < c.loop-slot.slots.len = search rules in
    record {
      items = back_marked c.loop-slot.slots.items c.pop_back-marked.new.self.items c.in-Some.slot.now (c.loop-slot.slots.len - 1)
          (omega (arith, some, c.loop-slot.slots.ok.0)) c.in-Some.ensures.lookup c.if-slot.false
          c.pop_back-marked.ensures.rest ∙ c.loop-slot.invariant.items;
      ascend = λ up. rw c.pop_back-marked.ensures.rest
          (ascending_take (λ x. x.held.id) (c.loop-slot.slots.len - 1) c.loop-slot.slots.items (c.loop-slot.invariant.ascend up));
    }
