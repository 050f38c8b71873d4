-- The texts of a line, which tabs separate, as a scan byte by byte.
use Rattle.std.specs.Prelude.{ℕ, List, [], ◌∷◌, ◌++◌, map, Vec, Bool, true, false, if◌then◌else◌, ◌==◌, Option, Some, None}
use Rattle.std.specs.Prelude.{option_map}
use Rattle.std.specs.declared.alloc.Global.{Global}
use Rattle.worker_journal.specs.Escape.{byte_of}

-- the state of the scan: the texts that a tab ended, the text after them, and whether the last byte was a
-- backslash
pub record Texts : Type 0 where
  pub ended : List (List ℕ)
  pub text : List ℕ
  pub escapes : Bool

-- the state before the first byte
abbrev pub no_texts : Texts
no_texts = record { ended = []; text = []; escapes = false }

-- the state after one more byte
abbrev pub one_more : Texts → ℕ → Texts
one_more t b =
    if t.escapes then record { ended = t.ended; text = t.text ++ byte_of b ∷ []; escapes = false }
    else if b == 92 then record { ended = t.ended; text = t.text; escapes = true }
    else if b == 9 then record { ended = t.ended ++ t.text ∷ []; text = []; escapes = false }
    else record { ended = t.ended; text = t.text ++ b ∷ []; escapes = false }

-- the state after more bytes
abbrev pub all_more : Texts → List ℕ → Texts
all_more t [] = t
all_more t (b ∷ bs) = all_more (one_more t b) bs

-- the texts at the end of the line
abbrev pub all_texts : Texts → List (List ℕ)
all_texts t = t.ended ++ t.text ∷ []

-- the texts of a line
abbrev pub texts_of : List ℕ → List (List ℕ)
texts_of line = all_texts (all_more no_texts line)

-- the items in pairs, or `None` if the number of items is odd
abbrev pub two_by_two : List (List ℕ) → Option (List (List ℕ × List ℕ))
two_by_two [] = Some []
two_by_two (a ∷ []) = None
two_by_two (a ∷ b ∷ rest) = option_map (λ ps. (a, b) ∷ ps) (two_by_two rest)

-- the entry of these texts: an id, and names and values by turns. `None` if there is no id or the last name has
-- no value
abbrev pub entry_of_list : List (List ℕ) → Option (List ℕ × List (List ℕ × List ℕ))
entry_of_list [] = None
entry_of_list (id ∷ rest) = option_map (λ ps. (id, ps)) (two_by_two rest)

-- the bytes of texts
abbrev pub bytes_of : List (Vec ℕ Global) → List (List ℕ)
bytes_of texts = map (λ t. t.items) texts

-- the state that two vectors and a flag represent
abbrev pub texts_now : Vec (Vec ℕ Global) Global → Vec ℕ Global → Bool → Texts
texts_now ended text escapes = record { ended = bytes_of ended.items; text = text.items; escapes = escapes }
