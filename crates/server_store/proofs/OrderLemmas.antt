-- What a search by id finds.
use Rattle.std.proofs.Common.{◌≡◌, ◌≢◌, ℕ, ◌<◌, ◌≤◌, List, length, Result, Ok, Err, IfOk, IfErr, ap, inl, inr, arith}
use Rattle.std.proofs.lemmas.Bool.{cases_lt}
use Rattle.std.proofs.lemmas.Bool.Decides.{nat_tests}
use Rattle.std.specs.Prelude.{slice_index_or}
use Rattle.std.specs.List.{HoldsAt}
use Rattle.std.specs.List.Sorted.{IsBinarySearchResult, IsNonDecreasingBy}
use Rattle.std.specs.Ordering.{ordering_index}
use Rattle.std.specs.declared.cmp.Ordering.{Ordering}
use Rattle.std.specs.declared.cmp.Ordering.TheVariants.{Less, Equal, Greater}
use Rattle.server_store.specs.Order.{id_order, IsAscending, IsGapFor, IsSplitBefore}
use Rattle.server_store.specs.declared.entry_id.EntryId.{EntryId}

-- ids that ascend compare with a third in a way that does not fall
pub rises : (a b id : EntryId) → id_order a b ≡ Less → ordering_index (id_order a id) ≤ ordering_index (id_order b id)
rises a b id before = grind (arith, nat_tests)

-- ids that compare as equal are
pub same : (a b : EntryId) → id_order a b ≡ Equal → a ≡ b
same a b equal = grind (arith, nat_tests)

not_both : (o : Ordering) → o ≡ Greater → o ≡ Less → ⊥
not_both o greater less = grind (arith, nat_tests)

pub not_itself : (a : EntryId) → id_order a a ≡ Less → ⊥
not_itself a less = grind (arith, nat_tests)

not_before : (a b : EntryId) → id_order a b ≡ Less → id_order b a ≡ Less → ⊥
not_before a b less more = grind (arith, nat_tests)

module _ {X : Type 0} (id_of : X → EntryId) (xs : List X) (id : EntryId) where
  -- the comparisons with the id rise along the list, as a binary search requires
  comparisons_rise : IsAscending id_of xs → IsNonDecreasingBy (λ x. ordering_index (id_order (id_of x) id)) xs
  comparisons_rise ascending i j d le within = elim (cases_lt i j) [
    | inl lt ↦ rises _ _ id (ascending i j d lt within)
    | inr ge ↦
        let is : i ≡ j = omega arith in
        omega (arith, ap (λ k. ordering_index (id_order (id_of (slice_index_or xs k d)) id)) is)
  ]

  -- a binary search by the id ends at an element that has it
  pub found : (r : Result ℕ ℕ) → IsBinarySearchResult (λ x. id_order (id_of x) id) xs r
      → IfOk r (HoldsAt (λ x. id_of x ≡ id) xs)
  found (Ok i) equal = λ d. same _ _ (equal d)
  found (Err i) parted = tt

  -- or at the gap for it
  pub missing : (r : Result ℕ ℕ) → IsBinarySearchResult (λ x. id_order (id_of x) id) xs r
      → IfErr r (λ i. IsAscending id_of xs → IsGapFor id_of id xs i)
  missing (Ok i) equal = tt
  missing (Err i) parted = λ ascending. parted (comparisons_rise ascending)

  -- in ascending order, the place of an id splits the list
  pub split_at : (i : ℕ) → i < length xs → HoldsAt (λ x. id_of x ≡ id) xs i
      → IsAscending id_of xs → IsSplitBefore id_of id xs i
  split_at i within named ascending = ((λ j d low lt. below j d lt), (λ j d le lt. above j d le lt))
    where
      below : (j : ℕ) (d : X) → j < i → id_order (id_of (slice_index_or xs j d)) id ≡ Less
      below j d lt = rw (named d) at (ascending j i d lt within)

      above : (j : ℕ) (d : X) → i ≤ j → j < length xs → id_order (id_of (slice_index_or xs j d)) id ≢ Less
      above j d le lt less = elim (cases_lt i j) [
        | inl after ↦ not_before id (id_of (slice_index_or xs j d)) (rw (named d) at (ascending i j d after lt)) less
        | inr ge ↦
            let is : i ≡ j = omega arith in
            not_itself id (rw (rw is at (named d)) at less)
      ]

  -- so does the gap for it
  pub split_at_gap : (i : ℕ) → IsGapFor id_of id xs i → IsSplitBefore id_of id xs i
  split_at_gap i gap = (gap.0, λ j d le lt less. not_both _ (gap.1 j d le lt) less)
