-- Lists of printed forms.
use Rattle.std.proofs.Common.{◌≡◌, List, [], ◌∷◌, ◌++◌, map, refl, ap, sym, ◌∙◌}
use Rattle.std.proofs.lemmas.List.Folds.{flat_map-map}
use Rattle.std.specs.List.{join_by}

-- Forms that depend on a part of each item are the forms of the parts.
pub join_by_map : {X Y A : Type 0} (f : Y → List A) (g : X → Y) (separator : List A) (xs : List X)
    → join_by (λ x. f (g x)) separator xs ≡ join_by f separator (map g xs)
join_by_map f g separator [] = refl
join_by_map f g separator (x ∷ xs) = ap (λ rest. f (g x) ++ rest) (sym (flat_map-map (λ y. separator ++ f y) g xs))

-- The same where the parts are known as a list.
pub join_by_parts : {X Y A : Type 0} (f : Y → List A) (g : X → Y) (separator : List A) (xs : List X) (ys : List Y)
    → map g xs ≡ ys → join_by (λ x. f (g x)) separator xs ≡ join_by f separator ys
join_by_parts f g separator xs ys e = join_by_map f g separator xs ∙ ap (join_by f separator) e
