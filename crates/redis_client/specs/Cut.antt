-- Splitting bytes at a byte.
use Rattle.std.specs.Prelude.{ℕ, List, ◌+◌, ◌==◌, drop, Option, option_map, position}
use Rattle.std.specs.List.{before_first}

-- the part before the first such byte, or all if there is none
abbrev pub front : ℕ → List ℕ → List ℕ
front byte bytes = before_first (λ b. b == byte) bytes

-- the part after it, if there is one
abbrev pub behind : ℕ → List ℕ → Option (List ℕ)
behind byte bytes = option_map (λ place. drop (place + 1) bytes) (position (λ b. b == byte) bytes)
