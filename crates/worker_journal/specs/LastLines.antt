-- The lines of bytes, and the last of them.
use Rattle.std.specs.Prelude.{ℕ, List, [], ◌∷◌, ◌++◌, ◌-◌, length, drop, if◌then◌else◌, ◌==◌, Vec}
use Rattle.std.specs.declared.alloc.Global.{Global}
use Rattle.worker_journal.specs.LineTexts.{bytes_of}

-- the lines with the byte `b` before the first one, if there is a line
abbrev pub before_first : ℕ → List (List ℕ) → List (List ℕ)
before_first b [] = []
before_first b (l ∷ ls) = (b ∷ l) ∷ ls

-- the lines without their line feeds. Bytes after the last line feed are not a line
abbrev pub lines_of : List ℕ → List (List ℕ)
lines_of [] = []
lines_of (b ∷ bs) = if b == 10 then [] ∷ lines_of bs else before_first b (lines_of bs)

-- the last `n` items, or all items if there are fewer
abbrev pub last_of : {A : Type 0} → ℕ → List A → List A
last_of n xs = drop (length xs - n) xs

-- the lines that have ended, and the start of the next line
pub record Begun : Type 0 where
  pub ended : List (List ℕ)
  pub line : List ℕ

-- the state before the first byte
abbrev pub not_begun : Begun
not_begun = record { ended = []; line = [] }

-- the state after one more byte
abbrev pub byte_more : Begun → ℕ → Begun
byte_more t b =
    if b == 10 then record { ended = t.ended ++ t.line ∷ []; line = [] }
    else record { ended = t.ended; line = t.line ++ b ∷ [] }

-- the state after more bytes
abbrev pub bytes_more : Begun → List ℕ → Begun
bytes_more t [] = t
bytes_more t (b ∷ bs) = bytes_more (byte_more t b) bs

-- the state that two vectors represent
abbrev pub begun_now : Vec (Vec ℕ Global) Global → Vec ℕ Global → Begun
begun_now ended line = record { ended = bytes_of ended.items; line = line.items }
