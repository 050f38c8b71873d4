-- Changes after which the ids still ascend.
use Rattle.std.proofs.Common.{◌≡◌, ◌⊎◌, ℕ, ◌+◌, ◌-◌, ◌<◌, ◌≤◌, List, ◌∙◌, length, get_or, set, drop, ap, inl, inr, ⊎_elim, arith}
use Rattle.std.proofs.Common.{get_or-drop, get_or-set_same, get_or-set_other}
use Rattle.std.proofs.Common.{sym}
use Rattle.std.proofs.lemmas.Bool.{cases_lt}
use Rattle.std.proofs.lemmas.Bool.Decides.{nat_tests}
use Rattle.std.proofs.lemmas.List.{length-drop, length-set, get_or_default}
use Rattle.std.proofs.lemmas.List.Edits.{length-insert, get_or-insert_below, get_or-insert_at, get_or-insert_above}
use Rattle.std.proofs.lemmas.List.Edits.{length-remove, get_or-remove_below, get_or-remove_above}
use Rattle.std.specs.List.{insert, remove}
use Rattle.std.specs.declared.cmp.Ordering.TheVariants.{Less, Greater}
use Rattle.server_store.specs.Order.{id_order, IsAscending, IsGapFor}
use Rattle.server_store.specs.declared.entry_id.EntryId.{EntryId}

flipped : (a b : EntryId) → id_order a b ≡ Greater → id_order b a ≡ Less
flipped a b greater = grind (arith, nat_tests)

-- the elements at each index after an insertion
placed : {X : Type 0} (xs : List X) (i : ℕ) (y : X) (k : ℕ) (d : X) → i ≤ length xs
    → ((k < i) × (get_or (insert xs i y) k d ≡ get_or xs k d))
    ⊎ (((k ≡ i) × (get_or (insert xs i y) k d ≡ y)) ⊎ ((i < k) × (get_or (insert xs i y) k d ≡ get_or xs (k - 1) d)))
placed xs i y k d l = elim (cases_lt k i) [
  | inl lt ↦ inl (lt, get_or-insert_below xs i y d k lt l)
  | inr ge ↦ elim (cases_lt i k) [
    | inl gt ↦
        let back : k ≡ (k - 1) + 1 = omega arith in
        inr (inr (gt, ap (λ n. get_or (insert xs i y) n d) back ∙ get_or-insert_above xs i y d (k - 1) (omega arith) l))
    | inr le ↦
        let is : k ≡ i = omega arith in
        inr (inl (is, ap (λ n. get_or (insert xs i y) n d) is ∙ get_or-insert_at xs i y d l))
  ]
]

module _ {X : Type 0} (id_of : X → EntryId) where
  pub less_as : (a b x y : X) → a ≡ x → b ≡ y → id_order (id_of x) (id_of y) ≡ Less → id_order (id_of a) (id_of b) ≡ Less
  less_as a b x y p q less = rw (p, q) less

  -- an element is inserted in its gap
  pub ascending_insert : (xs : List X) (i : ℕ) (y : X) → i ≤ length xs → IsGapFor id_of (id_of y) xs i
      → IsAscending id_of xs → IsAscending id_of (insert xs i y)
  ascending_insert xs i y l gap up a b d lt bound =
      let long = length-insert xs i y l in
      let at = λ (k : ℕ). placed xs i y k d l in
      ⊎_elim
      (λ p. ⊎_elim
      (λ q. less_as _ _ _ _ p.1 q.1 (up a b d lt (omega (arith, q.0))))
      (⊎_elim (λ q. less_as _ _ _ _ p.1 q.1 (gap.0 a d (omega arith) p.0))
      (λ q. less_as _ _ _ _ p.1 q.1 (up a (b - 1) d (omega (arith, p.0, q.0)) (omega (arith, q.0)))))
      (at b))
      (⊎_elim
      (λ p. ⊎_elim
      (λ q. absurd (omega (arith, p.0, q.0)))
      (⊎_elim (λ q. absurd (omega (arith, p.0, q.0)))
      (λ q. less_as _ _ _ _ p.1 q.1 (flipped (id_of (get_or xs (b - 1) d)) (id_of y) (gap.1 (b - 1) d (omega (arith, q.0)) (omega (arith, q.0))))))
      (at b))
      (λ p. ⊎_elim
      (λ q. absurd (omega (arith, p.0, q.0)))
      (⊎_elim (λ q. absurd (omega (arith, p.0, q.0)))
      (λ q. less_as _ _ _ _ p.1 q.1 (up (a - 1) (b - 1) d (omega (arith, p.0)) (omega (arith, q.0)))))
      (at b)))
      (at a)

  same_id : (xs : List X) (i : ℕ) (y : X) (k : ℕ) (d : X) → i < length xs → id_of (get_or xs i d) ≡ id_of y
      → id_of (get_or (set xs i y) k d) ≡ id_of (get_or xs k d)
  same_id xs i y k d within named = elim (cases_lt k i) [
    | inl lt ↦ ap id_of (get_or-set_other xs i k y d (omega arith))
    | inr ge ↦ elim (cases_lt i k) [
      | inl gt ↦ ap id_of (get_or-set_other xs i k y d (omega arith))
      | inr le ↦
          let is : k ≡ i = omega arith in
          rw is (ap id_of (get_or-set_same xs i y d within) ∙ sym named)
    ]
  ]

  -- an element replaces the one with its id
  pub ascending_set : (xs : List X) (i : ℕ) (y : X) → i < length xs → ((d : X) → id_of (get_or xs i d) ≡ id_of y)
      → IsAscending id_of xs → IsAscending id_of (set xs i y)
  ascending_set xs i y within named up a b d lt bound =
      let long = length-set xs i y in
      rw (same_id xs i y a d within (named d), same_id xs i y b d within (named d)) (up a b d lt (omega arith))

  -- the elements at each index after a removal
  stood : (xs : List X) (i k : ℕ) (d : X) → i < length xs
      → ((k < i) × (get_or (remove xs i) k d ≡ get_or xs k d)) ⊎ ((i ≤ k) × (get_or (remove xs i) k d ≡ get_or xs (k + 1) d))
  stood xs i k d within = elim (cases_lt k i) [
    | inl lt ↦ inl (lt, get_or-remove_below xs i d k lt within)
    | inr ge ↦ inr (ge, get_or-remove_above xs i d k ge within)
  ]

  -- an element is removed
  pub ascending_remove : (xs : List X) (i : ℕ) → i < length xs → IsAscending id_of xs → IsAscending id_of (remove xs i)
  ascending_remove xs i within up a b d lt bound =
      let long = length-remove xs i within in
      let at = λ (k : ℕ). stood xs i k d within in
      ⊎_elim
      (λ p. ⊎_elim
      (λ q. less_as _ _ _ _ p.1 q.1 (up a b d lt (omega (arith, q.0))))
      (λ q. less_as _ _ _ _ p.1 q.1 (up a (b + 1) d (omega arith) (omega arith)))
      (at b))
      (λ p. ⊎_elim
      (λ q. absurd (omega (arith, p.0, q.0)))
      (λ q. less_as _ _ _ _ p.1 q.1 (up (a + 1) (b + 1) d (omega arith) (omega arith)))
      (at b))
      (at a)

  -- the elements after the first ones
  pub ascending_drop : (n : ℕ) (xs : List X) → IsAscending id_of xs → IsAscending id_of (drop n xs)
  ascending_drop n xs up a b d lt bound =
      let long = length-drop n xs in
      less_as _ _ _ _ (get_or-drop n xs a d) (get_or-drop n xs b d) (up (n + a) (n + b) d (omega (arith, lt)) (omega arith))

-- the element at an index, whatever is read past the end
pub stands_in_bounds : {X : Type 0} (xs : List X) (i : ℕ) (x d : X) → i < length xs → get_or xs i x ≡ x → get_or xs i d ≡ x
stands_in_bounds xs i x d lt stood = get_or_default xs i d x lt ∙ stood
