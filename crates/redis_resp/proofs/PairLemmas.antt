-- The pairs of a list two by two.
use Rattle.std.proofs.Common.{◌≡◌, ◌≢◌, ◌%◌, ◌/◌, List, [], ◌∷◌, ap, refl, length, arith, Some, None, option_map}
use Rattle.redis_resp.specs.Tree.{Tree, two_by_two}
use Rattle.redis_resp.specs.Source.{two_each}

-- a list of even length has all its members two by two
pub even_two_by_two : (xs : List Tree) → length xs % 2 ≡ 0 → two_by_two xs ≡ Some (two_each xs)
even_two_by_two [] e = refl
even_two_by_two (x ∷ []) e = absurd (omega arith)
even_two_by_two (x ∷ y ∷ xs) e = ap (option_map (λ ps. (x, y) ∷ ps)) (even_two_by_two xs (omega arith))

-- a list of odd length has one left over
pub odd_has_none : (xs : List Tree) → length xs % 2 ≢ 0 → two_by_two xs ≡ None
odd_has_none [] h = absurd (h refl)
odd_has_none (x ∷ []) h = refl
odd_has_none (x ∷ y ∷ xs) h = rw (odd_has_none xs (λ e. h (omega arith))) refl

pub length_two_each : (xs : List Tree) → length xs / 2 ≡ length (two_each xs)
length_two_each [] = refl
length_two_each (x ∷ []) = refl
length_two_each (x ∷ y ∷ xs) = let e = length_two_each xs in omega arith

-- the pairs of an array two by two
pub ruleset two_by_two_read = (even_two_by_two, odd_has_none)
