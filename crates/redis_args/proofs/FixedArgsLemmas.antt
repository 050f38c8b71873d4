-- Pieces of bytes, and what one more piece changes.
use Rattle.std.proofs.Common.{◌≡◌, ℕ, zero, suc, ◌+◌, ◌-◌, ◌<◌, ◌≤◌, List, [], ◌∷◌, ◌++◌, length, get_or, refl, sym, ap}
use Rattle.std.proofs.Common.{subst, arith, Some}
use Rattle.std.specs.Prelude.{slice_range, slice_get, sum_by}
use Rattle.std.proofs.lemmas.List.Sums.{sum_by-cons}
use Rattle.std.proofs.lemmas.Grind.{common_steps}
use Rattle.redis_args.specs.FixedArgs.{pieces, AreEnds}

-- as many pieces as ends
pub length-pieces : (s : ℕ) (b ends : List ℕ) → length (pieces s b ends) ≡ length ends
length-pieces s b [] = refl
length-pieces s b (e ∷ es) = ap suc (length-pieces e b es)

-- the last end is past the first start
pub start_le : (s : ℕ) (ends : List ℕ) (n : ℕ) → AreEnds s ends n → s ≤ n
start_le s [] n h = omega (arith, h)
start_le s (e ∷ es) n h = omega (arith, h.0, start_le e es n h.1)

-- one more end
pub AreEnds-push : (s : ℕ) (ends : List ℕ) (n k : ℕ) → AreEnds s ends n → AreEnds s (ends ++ (n + k) ∷ []) (n + k)
AreEnds-push s [] n k h = (omega (arith, h), refl)
AreEnds-push s (e ∷ es) n k h = (h.0, AreEnds-push e es n k h.1)

-- a part of the prefix
pub slice_range-append : (b a : List ℕ) (s e : ℕ) → s ≤ e → e ≤ length b → slice_range (b ++ a) s e ≡ slice_range b s e
slice_range-append b a s e le fits = grind (arith, common_steps)

-- the part that was appended
pub slice_range_appended : (b a : List ℕ) → slice_range (b ++ a) (length b) (length b + length a) ≡ a
slice_range_appended b a = grind (arith, common_steps)

-- one more piece
pub pieces-push : (s : ℕ) (b ends a : List ℕ) → AreEnds s ends (length b)
    → pieces s (b ++ a) (ends ++ (length b + length a) ∷ []) ≡ pieces s b ends ++ a ∷ []
pieces-push s b [] a h = ap (λ x. x ∷ [])
    (subst (λ n. slice_range (b ++ a) n (length b + length a) ≡ a) (sym h) (slice_range_appended b a))
pieces-push s b (e ∷ es) a h =
    let p = slice_range-append b a s e h.0 (start_le e es (length b) h.1) in
    let q = pieces-push e b es a h.1 in cc

-- the total number of bytes
pub sum_by-pieces : (s : ℕ) (b ends : List ℕ) → AreEnds s ends (length b)
    → s + sum_by length (pieces s b ends) ≡ length b
sum_by-pieces s b [] h = omega (arith, h)
sum_by-pieces s b (e ∷ es) h =
    let q = sum_by-pieces e b es h.1 in
    let l = start_le e es (length b) h.1 in
    let p = sum_by-cons length (slice_range b s e) (pieces e b es) in
    let r : length (slice_range b s e) ≡ e - s = grind (arith, common_steps) in
    omega (arith, h.0)

-- the piece at i
pub slice_get-pieces : (s : ℕ) (b ends : List ℕ) (i : ℕ) → i < length ends
    → slice_get (pieces s b ends) i ≡ Some (slice_range b (get_or (s ∷ ends) i 0) (get_or ends i 0))
slice_get-pieces s b (e ∷ es) zero h = refl
slice_get-pieces s b (e ∷ es) (suc i) h = slice_get-pieces e b es i (omega arith)
slice_get-pieces s b [] i h = absurd (omega arith)

-- its range of offsets
pub ends_in_order : (s : ℕ) (ends : List ℕ) (n i : ℕ) → AreEnds s ends n → i < length ends
    → (get_or (s ∷ ends) i 0 ≤ get_or ends i 0) × (get_or ends i 0 ≤ n)
ends_in_order s (e ∷ es) n zero h lt = (h.0, start_le e es n h.1)
ends_in_order s (e ∷ es) n (suc i) h lt = ends_in_order e es n i h.1 (omega arith)
ends_in_order s [] n i h lt = absurd (omega arith)

pub ruleset facts =
    (common_steps, length-pieces, AreEnds-push, pieces-push, sum_by-pieces, slice_get-pieces, ends_in_order)

-- the element one earlier
pub item_before : (x : ℕ) (xs : List ℕ) (i : ℕ) → 0 < i → get_or (x ∷ xs) i 0 ≡ get_or xs (i - 1) 0
item_before x xs (suc i) h = let e : suc i - 1 ≡ i = omega arith in rw e
item_before x xs zero h = absurd (omega arith)
