-- The parts of a text before and after a byte.
use Rattle.std.specs.Prelude.{◌==◌, ℕ, List, take, drop, not, Bool}
use Rattle.std.specs.List.{prefix_len}

-- whether the byte `b` is not `end`
abbrev pub is_other : ℕ → ℕ → Bool
is_other end b = not (b == end)

-- the bytes before the first byte `end`, or all bytes if there is none
abbrev pub before : ℕ → List ℕ → List ℕ
before end text = take (prefix_len (is_other end) text) text

-- the bytes from the first byte `end` on
abbrev pub from : ℕ → List ℕ → List ℕ
from end text = drop (prefix_len (is_other end) text) text
