-- The counts of a handler, and whether a list has items.
use Rattle.std.specs.Prelude.{◌+◌, ◌-◌, ◌^◌, ◌∷◌, [], ℕ, Bool, List, false, min, true}

-- `n` + 1, or the largest number of 64 bits if `n` + 1 is larger
abbrev pub one_more : ℕ → ℕ
one_more n = min (n + 1) (2 ^ 64 - 1)

-- whether the list has items
abbrev pub has_any : {X : Type 0} → List X → Bool
has_any [] = false
has_any (x ∷ xs) = true
