-- What a reader and a writer report.
use Rattle.std.specs.Prelude.{◌≡◌, ℕ, List, ◌++◌, Option}
use Rattle.std.specs.Io.KnownBytes.{Appends}
use Rattle.stream_option_parsing.specs.Answer.{IsAnswer}

-- the bytes up to this rest were appended to what was written before
pub record WroteUpTo (bytes rest : List ℕ) (old new : Option (List ℕ)) : Type 0 where
  pub written : List ℕ
  pub splits : bytes ≡ written ++ rest
  pub appended : Appends old new written

-- a prefix of the bytes was
abbrev pub WroteBeginning : List ℕ → Option (List ℕ) → Option (List ℕ) → Type 0
WroteBeginning bytes old new = (rest : List ℕ) × WroteUpTo bytes rest old new

-- the output for the input was
abbrev pub WroteAnswer : List ℕ → Option (List ℕ) → Option (List ℕ) → Type 0
WroteAnswer input old new = (answer : List ℕ) × IsAnswer input answer × Appends old new answer

-- a prefix of the output was
abbrev pub WroteAnswerBeginning : List ℕ → Option (List ℕ) → Option (List ℕ) → Type 0
WroteAnswerBeginning input old new = (answer : List ℕ) × IsAnswer input answer × WroteBeginning answer old new
