-- How a duplicate entry is detected, as settings and as arguments.
use Rattle.std.specs.Prelude.{ℕ, List, [], ◌∷◌, codes}
use Rattle.std.specs.Str.{IsUtf8}

-- by a producer and an id from it, or by a producer and the content of the entry
pub data Idempotency : Type 0 where
  manual : List ℕ → List ℕ → Idempotency
  automatic : List ℕ → Idempotency

-- `IDMP producer idempotent` or `IDMPAUTO producer`
abbrev pub idempotency_sentence : Idempotency → List (List ℕ)
idempotency_sentence (manual producer idempotent) = codes "IDMP" ∷ producer ∷ idempotent ∷ []
idempotency_sentence (automatic producer) = codes "IDMPAUTO" ∷ producer ∷ []

-- the fixed words
abbrev pub idempotency_words : List (List ℕ)
idempotency_words = codes "IDMP" ∷ codes "IDMPAUTO" ∷ []

-- the ids are texts
abbrev pub IdempotencyFits : Idempotency → Type 0
IdempotencyFits (manual producer idempotent) = IsUtf8 producer × IsUtf8 idempotent
IdempotencyFits (automatic producer) = IsUtf8 producer
