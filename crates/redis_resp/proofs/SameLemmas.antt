-- Lists of different lengths are not the same.
use Rattle.std.proofs.Common.{◌≡◌, ◌≢◌, suc, Bool, true, false, ◌&&◌, List, [], ◌∷◌, map, length, refl, ap}
use Rattle.redis_resp.specs.Tree.{trees, pairs}
use Rattle.redis_resp.specs.Same.{same_each, same_pairs}
use Rattle.redis_resp.specs.Value.{tree, tree_of_pair}
use Rattle.redis_resp.specs.declared.value.Value.{Value}

and_false : (b r : Bool) → false ≡ r → false ≡ (b && r)
and_false true r e = e
and_false false r e = refl

-- lists of different lengths are not the same
pub each_long : (xs ys : List Value) → length xs ≢ length ys
    → false ≡ same_each (trees (map tree xs)) (trees (map tree ys))
each_long [] [] h = absurd (h refl)
each_long [] (y ∷ ys) h = refl
each_long (x ∷ xs) [] h = refl
each_long (x ∷ xs) (y ∷ ys) h = and_false _ _ (each_long xs ys (λ e. h (ap suc e)))

pub pairs_long : (xs ys : List (Value × Value)) → length xs ≢ length ys
    → false ≡ same_pairs (pairs (map tree_of_pair xs)) (pairs (map tree_of_pair ys))
pairs_long [] [] h = absurd (h refl)
pairs_long [] (y ∷ ys) h = refl
pairs_long (x ∷ xs) [] h = refl
pairs_long (x ∷ xs) (y ∷ ys) h = and_false _ _ (and_false _ _ (pairs_long xs ys (λ e. h (ap suc e))))
