-- How lists and numbers are printed in a line.
use Rattle.std.specs.Prelude.{ℕ, List, [], ◌∷◌, Option, Some, None, codes, decimal}
use Rattle.std.specs.List.{join_by}

-- the forms of the items with the separator between each two, or a dash if there is no item
abbrev pub listed : {X : Type 0} → (X → List ℕ) → List ℕ → List X → List ℕ
listed form separator [] = codes "-"
listed form separator (x ∷ xs) = join_by form separator (x ∷ xs)

-- a number in decimal, or `none`
abbrev pub number_form : Option ℕ → List ℕ
number_form (Some n) = decimal n
number_form None = codes "none"
