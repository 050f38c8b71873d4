-- Fixed words, and the arguments that may follow those of settings.
use Rattle.std.specs.Prelude.{◌≡◌, ◌<◌, ◌^◌, ℕ, Bool, false, ◌||◌, List, [], ◌∷◌}
use Rattle.std.specs.Str.{bytes_eq}

-- the argument is one of the words
abbrev pub among : List (List ℕ) → List ℕ → Bool
among [] arg = false
among (word ∷ words) arg = bytes_eq arg word || among words arg

-- there is a first argument, and it is one of the words
abbrev pub begins : List (List ℕ) → List (List ℕ) → Bool
begins words [] = false
begins words (arg ∷ _) = among words arg

-- a free rest: no argument, or a first one that is none of the words
abbrev pub IsFree : List (List ℕ) → List (List ℕ) → Type 0
IsFree words rest = begins words rest ≡ false

-- a number in the range of usize
abbrev pub IsUsize : ℕ → Type 0
IsUsize n = n < 2 ^ 64
