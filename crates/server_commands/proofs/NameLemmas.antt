-- What a search by a name finds.
use Rattle.std.proofs.Common.{◌≡◌, ◌<◌, ◌≤◌, ℕ, List, [], ◌∷◌, Result, Ok, Err, IfErr, IfOk, length, map, get_or, refl, sym, ap, ◌∙◌, inl, inr, arith}
use Rattle.std.proofs.lemmas.Bool.{cases_lt}
use Rattle.std.proofs.lemmas.Bool.Decides.{nat_tests}
use Rattle.std.proofs.lemmas.Cmp.{nat_list_cmp_total}
use Rattle.std.proofs.lemmas.List.{get_or-map, length-map}
use Rattle.std.proofs.lemmas.Map.Lookups.{exact_bytes}
use Rattle.std.specs.Cmp.{tied_itself}
use Rattle.std.specs.Cmp.Lexicographic.{slice_cmp}
use Rattle.std.specs.List.{HoldsAt}
use Rattle.std.specs.List.Sorted.{IsBinarySearchResult, IsNonDecreasingBy, IsPartitionPoint}
use Rattle.std.specs.Ordering.{nat_cmp, ordering_index}
use Rattle.std.specs.declared.cmp.Ordering.{Ordering}
use Rattle.std.specs.declared.cmp.Ordering.TheVariants.{Less, Equal, Greater}
use Rattle.server_commands.specs.Places.{AreInOrder, IsMissing}

-- a binary search by a name ends at an element that has it
pub found_by_name : {X : Type 0} (name_of : X → List ℕ) (xs : List X) (name : List ℕ) (r : Result ℕ ℕ)
    → IsBinarySearchResult (λ x. slice_cmp nat_cmp (name_of x) name) xs r
    → IfOk r (HoldsAt (λ x. name_of x ≡ name) xs)
found_by_name name_of xs name (Ok i) equal = λ d. exact_bytes _ _ (equal d)
found_by_name name_of xs name (Err i) parted = tt

-- a name is not before or after itself
pub not_before_itself : (a b : List ℕ) → a ≡ b → slice_cmp nat_cmp a b ≡ Less → ⊥
not_before_itself a b is less =
    let equal : slice_cmp nat_cmp a b ≡ Equal = rw is (tied_itself nat_list_cmp_total b) in
    let differ : Less ≡ Equal = sym less ∙ equal in grind (arith, nat_tests, differ)

not_behind_itself : (a b : List ℕ) → a ≡ b → slice_cmp nat_cmp a b ≡ Greater → ⊥
not_behind_itself a b is greater =
    let equal : slice_cmp nat_cmp a b ≡ Equal = rw is (tied_itself nat_list_cmp_total b) in
    let differ : Greater ≡ Equal = sym greater ∙ equal in grind (arith, nat_tests, differ)

by_order : (a b : Ordering) → (b ≡ Less → a ≡ Less) → (b ≡ Equal → a ≡ Less) → ordering_index a ≤ ordering_index b
by_order a Less less equal = rw (less refl) (omega arith)
by_order a Equal less equal = rw (equal refl) (omega arith)
by_order Less Greater less equal = omega arith
by_order Equal Greater less equal = omega arith
by_order Greater Greater less equal = omega arith

-- names in order compare with a third in a way that does not fall
rises : (a b name : List ℕ) → slice_cmp nat_cmp a b ≡ Less
    → ordering_index (slice_cmp nat_cmp a name) ≤ ordering_index (slice_cmp nat_cmp b name)
rises a b name before = by_order (slice_cmp nat_cmp a name) (slice_cmp nat_cmp b name)
    (λ less. nat_list_cmp_total.trans a b name before less)
    (λ equal. ap (slice_cmp nat_cmp a) (sym (exact_bytes b name equal)) ∙ before)

module _ {X : Type 0} (name_of : X → List ℕ) (xs : List X) (name : List ℕ) where
  comparisons_rise : AreInOrder (map name_of xs)
      → IsNonDecreasingBy (λ x. ordering_index (slice_cmp nat_cmp (name_of x) name)) xs
  comparisons_rise up i j d le within = elim (cases_lt i j) [
    | inl lt ↦
        let long = length-map xs name_of in
        rises (name_of (get_or xs i d)) (name_of (get_or xs j d)) name
        (rw (get_or-map name_of xs i d [] (omega (arith, lt, within)), get_or-map name_of xs j d [] within)
        at (up i j [] lt (omega (arith, within, long))))
    | inr ge ↦
        let is : i ≡ j = omega arith in
        omega (arith, ap (λ k. ordering_index (slice_cmp nat_cmp (name_of (get_or xs k d)) name)) is)
  ]

-- no element has the name that has a gap
missing_at : {X : Type 0} (name_of : X → List ℕ) (xs : List X) (name : List ℕ) (i : ℕ)
    → IsPartitionPoint (λ x. slice_cmp nat_cmp (name_of x) name ≡ Less) (λ x. slice_cmp nat_cmp (name_of x) name ≡ Greater) xs i
    → IsMissing name (map name_of xs)
missing_at name_of [] name i parts k d lt is = absurd (omega (arith, lt))
missing_at {X} name_of (x ∷ xs) name i parts k d lt is =
    let all : List X = x ∷ xs in
    let bound : k < length all = omega (arith, lt, length-map all name_of) in
    let same : name_of (get_or all k x) ≡ name = sym (get_or-map name_of all k x d bound) ∙ is in
    elim (cases_lt k i) [
      | inl low ↦ not_before_itself (name_of (get_or all k x)) name same (parts.0 k x (omega arith) low)
      | inr high ↦ not_behind_itself (name_of (get_or all k x)) name same (parts.1 k x (omega arith) bound)
    ]

-- or no element has it, if the names are in order
pub missing_by_name : {X : Type 0} (name_of : X → List ℕ) (xs : List X) (name : List ℕ) (r : Result ℕ ℕ)
    → IsBinarySearchResult (λ x. slice_cmp nat_cmp (name_of x) name) xs r
    → IfErr r (λ _. AreInOrder (map name_of xs) → IsMissing name (map name_of xs))
missing_by_name name_of xs name (Ok i) equal = tt
missing_by_name name_of xs name (Err i) parted = λ up. missing_at name_of xs name i (parted (comparisons_rise name_of xs name up))

-- names in order are at one place each
pub one_place : {X : Type 0} (name_of : X → List ℕ) (xs : List X) (name : List ℕ) (i j : ℕ) (d : X) → i < length xs
    → j < length xs → AreInOrder (map name_of xs) → name_of (get_or xs i d) ≡ name → name_of (get_or xs j d) ≡ name
    → i ≡ j
one_place name_of xs name i j d i_lt j_lt up i_is j_is =
    let long = length-map xs name_of in
    let before : (m n : ℕ) → m < length xs → n < length xs → name_of (get_or xs m d) ≡ name → name_of (get_or xs n d) ≡ name
    → m < n → ⊥ =
    λ m n m_lt n_lt m_is n_is lt. not_before_itself (name_of (get_or xs m d)) (name_of (get_or xs n d)) (m_is ∙ sym n_is)
    (rw (get_or-map name_of xs m d [] m_lt, get_or-map name_of xs n d [] n_lt) at (up m n [] lt (omega (arith, n_lt, long)))) in
    elim (cases_lt i j) [
      | inl lt ↦ absurd (before i j i_lt j_lt i_is j_is lt)
      | inr ge ↦ elim (cases_lt j i) [
        | inl lt ↦ absurd (before j i j_lt i_lt j_is i_is lt)
        | inr le ↦ omega arith
      ]
    ]
