-- Arguments kept one after the other in one buffer, each given by the offset where it ends.
use Rattle.std.specs.Prelude.{◌≡◌, ℕ, ◌≤◌, List, [], ◌∷◌, slice_range}

-- the pieces of the bytes from `start` on
abbrev pub pieces : ℕ → List ℕ → List ℕ → List (List ℕ)
pieces start bytes [] = []
pieces start bytes (end ∷ ends) = slice_range bytes start end ∷ pieces end bytes ends

-- each piece ends where the next one starts, and the last one at `len`
abbrev pub AreEnds : ℕ → List ℕ → ℕ → Type 0
AreEnds start [] len = start ≡ len
AreEnds start (end ∷ ends) len = (start ≤ end) × AreEnds end ends len
