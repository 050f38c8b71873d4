use Rattle.std.proofs.Common.{◌∙◌, ap, sym}
use Rattle.server_store.specs.PendingList.{PendingSlots, live_from}
use Rattle.server_store.proofs.pending_list.PendingList.first.Goals as goal

pub returns-in-Some-clause-some : goal.returns-in-Some-clause-some
returns-in-Some-clause-some c = (
  live_from c.self.inside.slots.items c.in-Some.field-0-0,
  ap (λ (seen : PendingSlots). seen.items) (sym c.self.view_is) ∙ c.in-Some.ensures.some,
)
