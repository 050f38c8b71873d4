-- The concatenation of lists over the numbers below a count.
use Rattle.std.specs.Prelude.{ℕ, zero, suc, List, [], ◌++◌}

-- the lists of each number below a count, one after the other
unfoldable pub below : {A : Type 0} → (ℕ → List A) → ℕ → List A
below members_of zero = []
below members_of (suc n) = below members_of n ++ members_of n
