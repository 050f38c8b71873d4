use Rattle.std.proofs.Common.{◌≡◌}
use Rattle.server_store.specs.PendingList.{live_from}
use Rattle.server_store.proofs.pending_list.find_next.Given as goal

-- none was live so far
abbrev pub invariant-loop-index : goal.invariant-loop-index
invariant-loop-index l = live_from l.slots.items l.index ≡ live_from l.slots.items l.at
