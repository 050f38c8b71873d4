-- Lists that are not empty.
use Rattle.std.specs.Prelude.{List, ◌∷◌}

-- a first item, and the items after it
pub record NonEmpty (T : Type 0) : Type 0 where
  pub first : T
  pub rest : List T

-- its items
abbrev pub all : {T : Type 0} → NonEmpty T → List T
all items = items.first ∷ items.rest
