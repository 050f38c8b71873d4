-- The text that is printed of a case.
use Rattle.std.specs.Prelude.{◌≡◌, ◌≢◌, ℕ, List, ◌++◌, Option, Some, None, Result, Ok, Err, codes, if◌then◌else◌}
use Rattle.std.specs.Str.{bytes_eq}
use Rattle.redis_resp.specs.declared.value.error.ParsingError.{ParsingError}
use Rattle.redis_resp.specs.declared.value.error.ParsingError.TheVariants.{Memory}
use Rattle.redis_resp.specs.Tree.{Tree}
use Rattle.test_notation.specs.Refusal.{answer_form}

-- the results that a reading of a tree may return: a record with the tree's meaning, or, if it has none, a refusal that
-- is allowed there; the error that memory ran out is not among them
abbrev pub MayAnswer : {T M : Type 0} → (T → M) → (Tree → Option M) → (Tree → ParsingError → Type 0) → Tree
    → Result T ParsingError → Type 0
MayAnswer meaning reading may_refuse t (Ok answer) = reading t ≡ Some (meaning answer)
MayAnswer meaning reading may_refuse t (Err error) = (error ≢ Memory) × may_refuse t error × (reading t ≡ None)

-- one form if both are the same, else both with their labels
abbrev pub compared : List ℕ → List ℕ → List ℕ
compared owned lent = if bytes_eq owned lent then owned else owned ++ (codes " owned, " ++ (lent ++ codes " lent"))

-- the line is the form of the results that both readings of a tree may return
pub record IsAnswer {T M : Type 0} (meaning : T → M) (reading : Tree → Option M)
    (may_refuse : Tree → ParsingError → Type 0) (form : T → List ℕ) (t : Tree) (line : List ℕ) : Type 0 where
  pub owned : Result T ParsingError
  pub lent : Result T ParsingError
  pub owned_may : MayAnswer meaning reading may_refuse t owned
  pub lent_may : MayAnswer meaning reading may_refuse t lent
  pub line_is : line ≡ compared (answer_form form owned) (answer_form form lent)
