-- The oldest of pending entries.
use Rattle.std.proofs.Common.{◌≡◌, ℕ, List, [], ◌∷◌, Some, None, map, length, refl, arith}
use Rattle.redis_streams.specs.InfoFullMeaning.{full_pending_meaning}
use Rattle.redis_streams.specs.declared.info.full.pending.StreamInfoFullPending.{StreamInfoFullPending}
use Rattle.stream_commands.specs.Monitor.GroupState.{longest_in, oldest_in}

pub oldest_none : (now : ℕ) (pending : List StreamInfoFullPending) → length pending ≡ 0
    → oldest_in now (map full_pending_meaning pending) ≡ None
oldest_none now [] h = refl
oldest_none now (p ∷ ps) h = absurd (omega arith)

pub oldest_some : (now : ℕ) (pending : List StreamInfoFullPending) → (length pending ≡ 0 → ⊥)
    → oldest_in now (map full_pending_meaning pending) ≡ Some (longest_in now (map full_pending_meaning pending))
oldest_some now [] h = absurd (h refl)
oldest_some now (p ∷ ps) h = refl
