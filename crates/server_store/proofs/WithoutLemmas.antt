-- What is pending without an id.
use Rattle.std.proofs.Common.{◌≡◌, ◌≢◌, ℕ, zero, suc, ◌<◌, List, [], ◌∷◌, true, false, length, get_or, refl, sym, ap, inl, inr, arith}
use Rattle.std.proofs.lemmas.Bool.{cases_lt}
use Rattle.std.proofs.lemmas.Bool.Decides.{nat_tests}
use Rattle.std.specs.List.{remove}
use Rattle.std.specs.Ordering.{is_eq}
use Rattle.std.specs.declared.cmp.Ordering.{Ordering}
use Rattle.std.specs.declared.cmp.Ordering.TheVariants.{Less, Equal, Greater}
use Rattle.server_store.specs.Order.{id_order, IsAscending, IsGapFor, IsNowhere}
use Rattle.server_store.specs.Pending.{pending_without}
use Rattle.server_store.specs.declared.entry_id.EntryId.{EntryId}
use Rattle.server_store.specs.declared.group.Pending.{Pending}
use Rattle.server_store.proofs.OrderLemmas.{same, not_itself}

not_equal : (o : Ordering) → (o ≡ Equal → ⊥) → is_eq o ≡ false
not_equal Less f = refl
not_equal Equal f = absurd (f refl)
not_equal Greater f = refl

other : (a b : EntryId) → a ≢ b → is_eq (id_order a b) ≡ false
other a b differ = not_equal (id_order a b) (λ e. differ (same a b e))

equal : (a b : EntryId) → a ≡ b → is_eq (id_order a b) ≡ true
equal a b is = grind (arith, nat_tests, is)

not_after_itself : (a : EntryId) → id_order a a ≡ Greater → ⊥
not_after_itself a greater = grind (arith, nat_tests)

module _ (id : EntryId) where
  -- none has the id that has a gap
  pub gap_nowhere : (xs : List Pending) (i : ℕ) → IsGapFor (λ p. p.id) id xs i → IsNowhere (λ p. p.id) id xs
  gap_nowhere xs i gap k d lt is = elim (cases_lt k i) [
    | inl low ↦ not_itself id (rw is at (gap.0 k d (omega arith) low))
    | inr high ↦ not_after_itself id (rw is at (gap.1 k d (omega arith) lt))
  ]

  -- none has the id
  pub without_none : (xs : List Pending) → IsNowhere (λ p. p.id) id xs → pending_without id xs ≡ xs
  without_none [] nowhere = refl
  without_none (x ∷ xs) nowhere =
      rw (other x.id id (nowhere 0 x (omega arith)), without_none xs (λ k d lt. nowhere (suc k) d (omega (arith, lt)))) refl

  -- one has it
  pub without_one : (xs : List Pending) (i : ℕ) → i < length xs → ((d : Pending) → (get_or xs i d).id ≡ id)
      → IsAscending (λ p. p.id) xs → remove xs i ≡ pending_without id xs
  without_one [] i lt named up = absurd (omega (arith, lt))
  without_one (x ∷ xs) zero lt named up =
      let after : IsNowhere (λ p. p.id) id xs =
      λ k d bound is. not_itself id (rw (named x, is) at (up 0 (suc k) d (omega arith) (omega (arith, bound)))) in
      rw (equal x.id id (named x)) (sym (without_none xs after))
  without_one (x ∷ xs) (suc i) lt named up =
      let below : id_order x.id id ≡ Less = rw (named x) at (up 0 (suc i) x (omega arith) lt) in
      let differs : is_eq (id_order x.id id) ≡ false = rw below refl in
      let rest = without_one xs i (omega (arith, lt)) (λ d. named d)
      (λ a b d less bound. up (suc a) (suc b) d (omega (arith, less)) (omega (arith, bound))) in
      rw differs (ap (λ (ys : List Pending). x ∷ ys) rest)

  -- there is a gap for it
  pub without_gap : (xs : List Pending) (i : ℕ) → (IsAscending (λ p. p.id) xs → IsGapFor (λ p. p.id) id xs i)
      → IsAscending (λ p. p.id) xs → xs ≡ pending_without id xs
  without_gap xs i gap up = sym (without_none xs (gap_nowhere xs i (gap up)))
