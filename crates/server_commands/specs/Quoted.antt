-- The words of a line, with quotes as redis-server reads them.
use Rattle.std.specs.Prelude.{◌≡◌, ℕ, ◌+◌, ◌-◌, ◌*◌, ◌==◌, ◌&&◌, ◌||◌, Bool, List, [], ◌∷◌, ◌++◌, length, take, slice_index}
use Rattle.std.specs.Prelude.{Option, Some, None, option_map, nat_le, if◌then◌else◌}
use Rattle.server_commands.specs.declared.quoted.Place.{Place}
use Rattle.server_commands.specs.declared.quoted.Place.TheVariants as places

-- what a byte of a line does: parsing goes on with this part of a word; a word ends; or quotes are unbalanced
pub data Turn : Type 0 where
  goes : Place → List ℕ → Turn
  ends : List ℕ → Turn
  fails : Turn

-- a byte from one to another
abbrev pub is_from : ℕ → ℕ → ℕ → Bool
is_from low high b = nat_le low b && nat_le b high

-- a byte that is between words: a blank, or one from tab to CR
abbrev pub is_blank : ℕ → Bool
is_blank b = (b == 32) || is_from 9 13 b

-- a byte that ends a word that is in no quotes
abbrev pub is_end : ℕ → Bool
is_end b = (b == 32) || (b == 9) || (b == 10) || (b == 13)

-- a hexadecimal digit
abbrev pub is_hex : ℕ → Bool
is_hex b = is_from 48 57 b || is_from 97 102 b || is_from 65 70 b

-- its value
abbrev pub digit_value : ℕ → ℕ
digit_value b = if is_from 48 57 b then b - 48
    else (if is_from 97 102 b then b - 87 else (if is_from 65 70 b then b - 55 else 0))

-- what a byte after a backslash means
abbrev pub escaped : ℕ → ℕ
escaped b = if b == 110 then 10 else (if b == 114 then 13 else (if b == 116 then 9
    else (if b == 98 then 8 else (if b == 97 then 7 else b))))

-- a byte in place of the last ones
abbrev pub instead : ℕ → List ℕ → ℕ → List ℕ
instead n w b = take (length w - n) w ++ b ∷ []

-- the last byte, or 0
abbrev pub last_byte : List ℕ → ℕ
last_byte w = slice_index w (length w - 1)

-- a byte of a word in no quotes
unfoldable pub in_word : List ℕ → ℕ → Turn
in_word w b = if b == 34 then goes places.Double w
    else (if b == 39 then goes places.Single w else goes places.Inside (w ++ b ∷ []))

-- a byte of a word in double quotes
unfoldable pub in_double : List ℕ → ℕ → Turn
in_double w b = if b == 34 then goes places.Closed w
    else (if b == 92 then goes places.Escape w else goes places.Double (w ++ b ∷ []))

-- a byte of a word in single quotes
unfoldable pub in_single : List ℕ → ℕ → Turn
in_single w b = if b == 39 then goes places.Closed w
    else (if b == 92 then goes places.SingleEscape (w ++ b ∷ []) else goes places.Single (w ++ b ∷ []))

-- a byte of a line, by the state of the parser
unfoldable pub turn : Place → List ℕ → ℕ → Turn
turn places.Between w b = if is_blank b then goes places.Between w else in_word w b
turn places.Inside w b = if is_end b then ends w else in_word w b
turn places.Double w b = in_double w b
turn places.Escape w b = if b == 120 then goes places.Hex (w ++ b ∷ []) else goes places.Double (w ++ escaped b ∷ [])
turn places.Hex w b = if is_hex b then goes places.HexDigit (w ++ b ∷ []) else in_double w b
turn places.HexDigit w b = if is_hex b
    then goes places.Double (instead 2 w (16 * digit_value (last_byte w) + digit_value b)) else in_double w b
turn places.Single w b = in_single w b
turn places.SingleEscape w b = if b == 39 then goes places.Single (instead 1 w b) else in_single w b
turn places.Closed w b = if is_blank b then ends w else fails

-- the words of a line that ends here
unfoldable pub at_end : Place → List ℕ → Option (List (List ℕ))
at_end places.Between w = Some []
at_end places.Inside w = Some (w ∷ [])
at_end places.Closed w = Some (w ∷ [])
at_end _ w = None

-- the words from a turn on, if `go` gives the words after it
unfoldable pub behind_turn : (Place → List ℕ → Option (List (List ℕ))) → Turn → Option (List (List ℕ))
behind_turn go (goes p w) = go p w
behind_turn go (ends w) = option_map (λ ws. w ∷ ws) (go places.Between [])
behind_turn go fails = None

-- the words from here on; none if quotes are unbalanced
unfoldable pub words_from : List ℕ → Place → List ℕ → Option (List (List ℕ))
words_from [] = at_end
words_from (b ∷ bs) = λ p w. behind_turn (words_from bs) (turn p w b)

-- the words of a line
abbrev pub split_words : List ℕ → Option (List (List ℕ))
split_words line = words_from line places.Between []

-- words before those that are read
abbrev pub prefixed : List (List ℕ) → Option (List (List ℕ)) → Option (List (List ℕ))
prefixed words read = option_map (λ ws. words ++ ws) read

-- the byte is accepted: the parser is in this state; or a word has ended, and the parser is between words
abbrev pub GoesOn : Turn → List (List ℕ) → List (List ℕ) → Place → List ℕ → Type 0
GoesOn (goes q w) old new p v = (p ≡ q) × (v ≡ w) × (new ≡ old)
GoesOn (ends w) old new p v = (p ≡ places.Between) × (v ≡ []) × (new ≡ old ++ w ∷ [])
GoesOn fails old new p v = ⊥
