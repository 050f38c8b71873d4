-- The clauses of a command's arguments: a fixed word and its value.
use Rattle.std.specs.Prelude.{ℕ, Bool, true, false, List, [], ◌∷◌, Option, Some, None, decimal}

-- the arguments of the value if it is set, and none if it is not
abbrev pub clause : {T : Type 0} → (T → List (List ℕ)) → Option T → List (List ℕ)
clause args (Some value) = args value
clause args None = []

-- `word n`, the number in decimal
abbrev pub word_number : List ℕ → ℕ → List (List ℕ)
word_number word n = word ∷ decimal n ∷ []

-- `word text`
abbrev pub word_text : List ℕ → List ℕ → List (List ℕ)
word_text word text = word ∷ text ∷ []

-- `word` if the flag is set, and otherwise nothing
abbrev pub flag : List ℕ → Bool → List (List ℕ)
flag word true = word ∷ []
flag word false = []
