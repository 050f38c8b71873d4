-- The time that the words of the command line fix.
use Rattle.std.specs.Prelude.{◌≡◌, ◌<◌, ◌^◌, ℕ, List, ◌∷◌, ◌++◌, None, Option, Some}
use Rattle.std.specs.List.{All}
use Rattle.std.specs.Str.Parse.{IsNumeral, digits_value, without_leading_plus}

-- a word is a number of 64 bits; a plus may precede its digits
abbrev pub IsTime : List ℕ → Type 0
IsTime word = IsNumeral 10 (without_leading_plus word) × (digits_value 10 (without_leading_plus word) < 2 ^ 64)

-- none of these words is one
abbrev pub HaveNoTime : List (List ℕ) → Type 0
HaveNoTime words = All (λ word. IsTime word → ⊥) words

-- the last word that is a number is this one
pub record Fixes (words : List (List ℕ)) (time : ℕ) : Type 0 where
  pub before : List (List ℕ)
  pub word : List ℕ
  pub after : List (List ℕ)
  pub split : words ≡ before ++ word ∷ after
  pub is_time : IsTime word
  pub value : time ≡ digits_value 10 (without_leading_plus word)
  pub last : HaveNoTime after

-- the time that words fix, if they fix one
abbrev pub FixesTime : List (List ℕ) → Option ℕ → Type 0
FixesTime words None = HaveNoTime words
FixesTime words (Some time) = Fixes words time
