-- What a series of writes leaves in a writer.
use Rattle.std.specs.Prelude.{◌≡◌, ℕ, Result, MatchResult, List, ◌∷◌, ◌++◌}

-- The run stopped within `args`: a proper prefix of them, each whole, was appended to what was held. The writer
-- may refuse the next one with this error.
pub record StopsWithin {E : Type 0} (old args new : List (List ℕ)) (may_refuse : List ℕ → E → Type 0)
    (error : E) : Type 0 where
  pub written : List (List ℕ)
  pub next : List ℕ
  pub rest : List (List ℕ)
  pub splits : args ≡ written ++ next ∷ rest
  pub holds : new ≡ old ++ written
  pub refused : may_refuse next error

-- The result of writing `args`: Ok with all of them appended to what was held, or an Err that stopped within them.
abbrev pub Wrote : {T E : Type 0} → Result T E → List (List ℕ) → List (List ℕ) → List (List ℕ) → (List ℕ → E → Type 0)
    → Type 0
Wrote result old args new may_refuse = MatchResult result (λ _. new ≡ old ++ args) (StopsWithin old args new may_refuse)
