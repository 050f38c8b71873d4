-- Splitting bytes at a byte.
use Rattle.std.specs.Prelude.{◌≡◌, ◌≢◌, ℕ, List, [], ◌∷◌, ◌++◌, ◌==◌, if◌then◌else◌, Option, Some, None, option_map}
use Rattle.std.specs.List.{AllByRecursion}

-- the part before the first such byte, and the part after it
abbrev pub split_first : ℕ → List ℕ → Option (List ℕ × List ℕ)
split_first byte [] = None
split_first byte (b ∷ rest) = if b == byte then Some ([], rest)
    else option_map (λ x. (b ∷ x.0, x.1)) (split_first byte rest)

-- the byte does not occur
abbrev pub Lacks : ℕ → List ℕ → Type 0
Lacks byte bytes = AllByRecursion (λ b. b ≢ byte) bytes

-- the part before the last such byte, and the part after it
abbrev pub IsSplitAtLast : ℕ → List ℕ → Option (List ℕ × List ℕ) → Type 0
IsSplitAtLast byte bytes (Some x) = (bytes ≡ x.0 ++ byte ∷ x.1) × Lacks byte x.1
IsSplitAtLast byte bytes None = Lacks byte bytes
