-- What is done with references to deleted entries.
use Rattle.std.specs.Prelude.{ℕ, List, [], ◌∷◌, codes}

-- a policy
pub data Policy : Type 0 where
  keep_ref : Policy
  del_ref : Policy
  acked : Policy

-- `KEEPREF`, `DELREF` or `ACKED`
abbrev pub policy_word : Policy → List ℕ
policy_word keep_ref = codes "KEEPREF"
policy_word del_ref = codes "DELREF"
policy_word acked = codes "ACKED"

-- the word alone
abbrev pub policy_sentence : Policy → List (List ℕ)
policy_sentence policy = policy_word policy ∷ []

-- the fixed words
abbrev pub policy_words : List (List ℕ)
policy_words = codes "KEEPREF" ∷ codes "DELREF" ∷ codes "ACKED" ∷ []
