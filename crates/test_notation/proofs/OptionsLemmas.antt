-- Printed lists, seen through what their items mean.
use Rattle.std.proofs.Common.{◌≡◌, ℕ, List, [], ◌∷◌, ◌++◌, map, refl, ap}
use Rattle.std.proofs.lemmas.List.Folds.{flat_map-map}
use Rattle.test_notation.specs.Form.{listed}

-- the forms of what the items mean
pub listed_map : {X Y : Type 0} (form : Y → List ℕ) (meaning : X → Y) (separator : List ℕ) (xs : List X)
    → listed form separator (map meaning xs) ≡ listed (λ x. form (meaning x)) separator xs
listed_map form meaning separator [] = refl
listed_map form meaning separator (x ∷ xs) =
    ap (λ t. form (meaning x) ++ t) (flat_map-map (λ y. separator ++ form y) meaning xs)
