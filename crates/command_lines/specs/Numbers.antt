-- The values of arguments that are numbers.
use Rattle.std.specs.Prelude.{◌^◌, ◌<◌, ◌≤◌, ℕ, List}
use Rattle.std.specs.Str.Parse.{IsNumeral, digits_value, without_leading_plus}

-- the value of the decimal digits in `text`, which a plus may precede
abbrev pub number_of : List ℕ → ℕ
number_of text = digits_value 10 (without_leading_plus text)

-- `text` is a number below 2^64, from `least` to `most`
abbrev pub IsNumberIn : ℕ → ℕ → List ℕ → Type 0
IsNumberIn least most text = IsNumeral 10 (without_leading_plus text) × (number_of text < 2 ^ 64)
    × (least ≤ number_of text) × (number_of text ≤ most)
