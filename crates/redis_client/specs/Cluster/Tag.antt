-- The part of a key that its slot depends on.
use Rattle.std.specs.Prelude.{◌≡◌, ◌≢◌, ℕ, List, [], ◌∷◌, ◌++◌}
use Rattle.redis_client.specs.Cluster.Slot.{hashed}
use Rattle.redis_client.specs.Cluster.Split.{Lacks}

-- The tag is in the key: between the first `{` and the first `}` after it, and has at least one byte.
pub record HasTag (key tag : List ℕ) : Type 0 where
  pub front : List ℕ
  pub rest : List ℕ
  pub is : key ≡ front ++ 123 ∷ (tag ++ 125 ∷ rest)
  pub first_opening : Lacks 123 front
  pub first_closing : Lacks 125 tag
  pub not_empty : tag ≢ []

-- the tag determines the slot
abbrev pub TagsDecide : Type 0
TagsDecide = (key tag : List ℕ) → HasTag key tag → hashed key ≡ tag

-- a key with no tag determines the slot as a whole
abbrev pub WholeKeysDecide : Type 0
WholeKeysDecide = (key : List ℕ) → ((tag : List ℕ) → ¬ HasTag key tag) → hashed key ≡ key
