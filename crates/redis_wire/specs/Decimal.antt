-- The text form of doubles and big numbers.
use Rattle.std.specs.Prelude.{ℕ, ◌==◌, ◌||◌, Bool, true, false, List, [], ◌∷◌, drop, codes, Option, Some, None}
use Rattle.std.specs.Prelude.{if◌then◌else◌}
use Rattle.std.specs.Char.{is_ascii_digit}
use Rattle.std.specs.Str.{bytes_eq}
use Rattle.std.specs.List.{prefix_len}

-- the code of `+` or of `-`
abbrev pub is_sign : ℕ → Bool
is_sign b = (b == 43) || (b == 45)

-- whether the text begins with a sign
unfoldable pub is_signed : List ℕ → Bool
is_signed [] = false
is_signed (b ∷ rest) = is_sign b

-- the text without its leading sign, if there is one
unfoldable pub without_sign : List ℕ → List ℕ
without_sign [] = []
without_sign (b ∷ rest) = if is_sign b then rest else b ∷ rest

-- the rest after the leading digits, or None if there is no leading digit
unfoldable pub behind_digits : List ℕ → Option (List ℕ)
behind_digits text = if prefix_len is_ascii_digit text == 0 then None
    else Some (drop (prefix_len is_ascii_digit text) text)

-- digits with nothing after them
unfoldable pub are_all : Option (List ℕ) → Bool
are_all None = false
are_all (Some []) = true
are_all (Some (b ∷ rest)) = false

-- a big number: an optional sign, then one digit or more
unfoldable pub is_integer : List ℕ → Bool
is_integer text = are_all (behind_digits (without_sign text))

-- nothing, or `e` or `E` and then an integer
unfoldable pub is_exponent : List ℕ → Bool
is_exponent [] = true
is_exponent (b ∷ rest) = if (b == 69) || (b == 101) then is_integer rest else false

-- the same for the rest after digits
unfoldable pub exponent_behind : Option (List ℕ) → Bool
exponent_behind None = false
exponent_behind (Some rest) = is_exponent rest

-- an optional `.` with one digit or more, and then an optional exponent
unfoldable pub is_fraction : List ℕ → Bool
is_fraction [] = true
is_fraction (b ∷ rest) = if b == 46 then exponent_behind (behind_digits rest) else is_exponent (b ∷ rest)

-- the same for the rest after digits
unfoldable pub fraction_behind : Option (List ℕ) → Bool
fraction_behind None = false
fraction_behind (Some rest) = is_fraction rest

-- the names of infinity and of not-a-number, with an optional `-`
unfoldable pub is_named : List ℕ → Bool
is_named text = bytes_eq text (codes "inf") || (bytes_eq text (codes "-inf")
    || (bytes_eq text (codes "nan") || bytes_eq text (codes "-nan")))

-- a double: one of these names; or an optional sign, digits, an optional fraction and an optional exponent
unfoldable pub is_double : List ℕ → Bool
is_double text = is_named text || fraction_behind (behind_digits (without_sign text))
