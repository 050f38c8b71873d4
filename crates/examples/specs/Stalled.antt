-- The entries that one XAUTOCLAIM claimed, and the start of the next one.
use Rattle.std.specs.Prelude.{ℕ, List, Option, Some, None, codes, if◌then◌else◌}
use Rattle.std.specs.Str.{bytes_eq}
use Rattle.redis.specs.Words.{AutoClaim}
use Rattle.examples.specs.Worker.{ids_of}

-- the ids of the entries that were claimed, and the start of the next claim
abbrev pub Claimed : Type 0
Claimed = List (List ℕ) × Option (List ℕ)

-- the start of the next claim. `None` if the server returned `0-0`
abbrev pub goes_on : List ℕ → Option (List ℕ)
goes_on next = if bytes_eq next (codes "0-0") then None else Some next

-- the ids in the reply, and the start of the next claim
abbrev pub claimed_of : AutoClaim → Claimed
claimed_of c = (ids_of c.claimed, goes_on c.next)
