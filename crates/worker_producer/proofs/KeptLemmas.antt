-- A part of records in memory.
use Rattle.std.proofs.Common.{◌≡◌, ℕ, zero, suc, List, [], ◌∷◌, map, take, drop, refl, ap, ◌∙◌}

map_taken : {A B : Type 0} (f : A → B) (n : ℕ) (xs : List A) → map f (take n xs) ≡ take n (map f xs)
map_taken f zero xs = refl
map_taken f (suc n) [] = refl
map_taken f (suc n) (x ∷ xs) = ap (λ ys. f x ∷ ys) (map_taken f n xs)

map_dropped : {A B : Type 0} (f : A → B) (n : ℕ) (xs : List A) → map f (drop n xs) ≡ drop n (map f xs)
map_dropped f zero xs = refl
map_dropped f (suc n) [] = refl
map_dropped f (suc n) (x ∷ xs) = map_dropped f n xs

pub map_part : {A B : Type 0} (f : A → B) (m n : ℕ) (xs : List A)
    → map f (take n (drop m xs)) ≡ take n (drop m (map f xs))
map_part f m n xs = map_taken f n (drop m xs) ∙ ap (take n) (map_dropped f m xs)
