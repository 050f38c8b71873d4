-- Why an entry is negatively acknowledged.
use Rattle.std.specs.Prelude.{ℕ, List, [], ◌∷◌, codes}

-- the settings of `XNACK`: its mode
pub data Nack : Type 0 where
  silent : Nack
  fail : Nack
  fatal : Nack

-- `SILENT`, `FAIL` or `FATAL`
abbrev pub nack_word : Nack → List ℕ
nack_word silent = codes "SILENT"
nack_word fail = codes "FAIL"
nack_word fatal = codes "FATAL"

-- the word alone
abbrev pub nack_sentence : Nack → List (List ℕ)
nack_sentence mode = nack_word mode ∷ []

-- the fixed words
abbrev pub nack_words : List (List ℕ)
nack_words = codes "SILENT" ∷ codes "FAIL" ∷ codes "FATAL" ∷ []
