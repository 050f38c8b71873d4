-- The ends of a connection in memory.
use Rattle.std.specs.Prelude.{◌≡◌, ◌≤◌, ◌-◌, ℕ, Option, Some, None}

-- n more bytes may pass before the connection breaks, if it is to break
abbrev pub MayPass : Option ℕ → ℕ → Type 0
MayPass None n = Unit {0}
MayPass (Some left) n = n ≤ left

-- n more bytes passed; if the connection is to break, n fewer may pass before it does
abbrev pub Passes : Option ℕ → Option ℕ → ℕ → Type 0
Passes None new n = new ≡ None
Passes (Some left) new n = (n ≤ left) × (new ≡ Some (left - n))
