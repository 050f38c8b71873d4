-- A list whose elements are changed one after the other.
use Rattle.std.proofs.Common.{◌≡◌, ℕ, ◌+◌, ◌<◌, List, [], ◌∷◌, ◌++◌, zero, suc, length, get_or, set, map, take, drop}
use Rattle.std.proofs.Common.{ap, arith}
use native.Mathlib.Numerals.{unary_clauses}

changed_at : {X : Type 0} (f : X → X) (xs : List X) (i : ℕ) (x y : X) → i < length xs
    → y ≡ f (get_or (map f (take i xs) ++ drop i xs) i x)
    → set (map f (take i xs) ++ drop i xs) i y ≡ map f (take (suc i) xs) ++ drop (suc i) xs
changed_at f [] i x y lt e = absurd (omega (arith, lt))
changed_at f (a ∷ xs) zero x y lt e = ap (λ b. b ∷ xs) e
changed_at f (a ∷ xs) (suc i) x y lt e = ap (λ ys. f a ∷ ys) (changed_at f xs i x y (omega (arith, lt)) e)

-- one element more is changed
pub changed_next : {X : Type 0} (f : X → X) (xs ys : List X) (i : ℕ) (x y : X) → i < length xs
    → ys ≡ map f (take i xs) ++ drop i xs → y ≡ f (get_or ys i x)
    → set ys i y ≡ map f (take (i + 1) xs) ++ drop (i + 1) xs
changed_next f xs ys i x y lt is e = simp unary_clauses (rw is (changed_at f xs i x y lt (rw is at e)))
