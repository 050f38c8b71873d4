use Rattle.std.proofs.Common.{◌≡◌, []}
use Rattle.server_store.specs.PendingList.{live_from}
use Rattle.server_store.proofs.pending_list.find_last.Given as goal

-- none is live from here on
abbrev pub invariant-loop-index : goal.invariant-loop-index
invariant-loop-index l = live_from l.slots.items l.index ≡ []
