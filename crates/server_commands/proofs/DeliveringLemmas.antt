-- The entries after an id, and that they are delivered.
use Rattle.std.proofs.Common.{◌≡◌, ℕ, zero, suc, ◌+◌, ◌-◌, ◌<◌, ◌≤◌, Bool, true, false, List, [], ◌∷◌, length, filter, get_or, drop, take, inl, inr, refl, sym, ap, ◌∙◌, arith}
use Rattle.std.proofs.lemmas.Bool.{cases_lt}
use Rattle.std.proofs.lemmas.Bool.Decides.{nat_tests}
use Rattle.std.specs.List.{HoldsAt}
use Rattle.std.specs.Ordering.{is_lt}
use Rattle.std.specs.declared.cmp.Ordering.TheVariants.{Less, Greater}
use Rattle.server_store.specs.Consumers.{IsSeen}
use Rattle.server_store.specs.Laws.{AreInOrder}
use Rattle.server_store.specs.Order.{id_order, IsAscending, IsGapFor}
use Rattle.server_store.specs.declared.entry_id.EntryId.{EntryId}
use Rattle.server_store.specs.declared.group.Group.{Group}
use Rattle.server_store.specs.declared.stream.Entry.{Entry}
use Rattle.server_commands.specs.Delivering.{AreDelivered, HandsOut, IsDelivered, entries_behind}

-- -- the entries after an id

not_behind : (a b : EntryId) → id_order b a ≡ Less → is_lt (id_order a b) ≡ false
not_behind a b less = grind (arith, nat_tests, less)

not_itself : (a b : EntryId) → b ≡ a → is_lt (id_order a b) ≡ false
not_itself a b is = grind (arith, nat_tests, is)

is_behind : (a b : EntryId) → id_order b a ≡ Greater → is_lt (id_order a b) ≡ true
is_behind a b greater = grind (arith, nat_tests, greater)

-- those before the index are not after it, and those from it on are
from : {X : Type 0} (id_of : X → EntryId) (id : EntryId) (xs : List X) (k : ℕ) → k ≤ length xs
    → ((j : ℕ) (d : X) → j < k → is_lt (id_order id (id_of (get_or xs j d))) ≡ false)
    → ((j : ℕ) (d : X) → k ≤ j → j < length xs → is_lt (id_order id (id_of (get_or xs j d))) ≡ true)
    → drop k xs ≡ filter (λ x. is_lt (id_order id (id_of x))) xs
from id_of id [] zero le low high = refl
from id_of id [] (suc k) le low high = absurd (omega (arith, le))
from {X} id_of id (x ∷ xs) zero le low high =
    rw (high 0 x (omega arith) (omega arith))
    (ap (λ (ys : List X). x ∷ ys)
    (from id_of id xs zero (omega arith) (λ j d lt. absurd (omega (arith, lt))) (λ j d at lt. high (suc j) d (omega arith) (omega (arith, lt)))))
from id_of id (x ∷ xs) (suc k) le low high =
    rw (low 0 x (omega arith))
    (from id_of id xs k (omega (arith, le)) (λ j d lt. low (suc j) d (omega (arith, lt))) (λ j d at lt. high (suc j) d (omega (arith, at)) (omega (arith, lt))))

-- from the gap of the id on
pub behind_gap : {X : Type 0} (id_of : X → EntryId) (id : EntryId) (xs : List X) (k : ℕ) → k ≤ length xs → IsGapFor id_of id xs k
    → drop k xs ≡ filter (λ x. is_lt (id_order id (id_of x))) xs
behind_gap id_of id xs k le gap =
    from id_of id xs k le (λ j d lt. not_behind id _ (gap.0 j d (omega arith) lt)) (λ j d at lt. is_behind id _ (gap.1 j d at lt))

-- after the one with the id
pub behind_it : {X : Type 0} (id_of : X → EntryId) (id : EntryId) (xs : List X) (i : ℕ) → i < length xs → HoldsAt (λ x. id_of x ≡ id) xs i
    → IsAscending id_of xs → drop (i + 1) xs ≡ filter (λ x. is_lt (id_order id (id_of x))) xs
behind_it {X} id_of id xs i within named up =
    from id_of id xs (i + 1) (omega (arith, within)) low
    (λ j d at lt. ap is_lt (rw (named d) at (up i j d (omega (arith, at)) lt)))
  where
    low : (j : ℕ) (d : X) → j < i + 1 → is_lt (id_order id (id_of (get_or xs j d))) ≡ false
    low j d lt = elim (cases_lt j i) [
      | inl less ↦ not_behind id _ (rw (named d) at (up j i d less within))
      | inr ge ↦
          let is : j ≡ i = omega arith in
          not_itself id _ (ap (λ k. id_of (get_or xs k d)) is ∙ named d)
    ]

-- ---- that it is delivered

pub none_left : (left : ℕ) (rest : List Entry) → left ≡ 0 → take left rest ≡ []
none_left left [] none = rw none refl
none_left left (e ∷ rest) none = rw none refl

pub none_there : (left : ℕ) (rest : List Entry) → length rest ≡ 0 → take left rest ≡ []
none_there zero [] none = refl
none_there (suc left) [] none = refl
none_there left (e ∷ rest) none = absurd (omega (arith, none))

one_more : (n : ℕ) → (n ≡ 0 → ⊥) → n ≡ suc (n - 1)
one_more zero some = absurd (some refl)
one_more (suc n) some = omega arith

module _ (number now : ℕ) (noack : Bool) where
  -- the first of what is left, and then the others
  delivered_first : (e : Entry) (old between new : Group) → IsDelivered number now noack e.id old between
      → (left less : ℕ) (es rest : List Entry) → left ≡ suc less → rest ≡ e ∷ es
      → AreDelivered number now noack (take less es) between new
      → AreDelivered number now noack (take left rest) old new
  delivered_first e old between new is left less es rest some stands so = rw (some, stands) (between, is, so)

  pub delivered_more : (e : Entry) (old between new : Group) → IsDelivered number now noack e.id old between
      → (left : ℕ) (es rest : List Entry) → (left ≡ 0 → ⊥) → rest ≡ e ∷ es
      → AreDelivered number now noack (take (left - 1) es) between new
      → AreDelivered number now noack (take left rest) old new
  delivered_more e old between new is left es rest some =
      delivered_first e old between new is left (left - 1) es rest (one_more left some)

  nothing_more : (entries : List Entry) (group : Group) → entries ≡ []
      → AreDelivered number now noack entries group group
  nothing_more entries group none = rw none refl

  of_same : (xs ys : List Entry) (most : ℕ) (old new : Group) → xs ≡ ys
      → AreDelivered number now noack (take most xs) old new
      → AreDelivered number now noack (take most ys) old new
  of_same xs ys most old new same so = rw (sym same) so

  -- if nothing is left, all is delivered
  pub all_delivered : (name : List ℕ) (most left start : ℕ) (entries all rest : List Entry) (old between new : Group)
      → IsSeen name now number old between
      → between ≡ record old { consumers = between.consumers; next_number = between.next_number }
      → all ≡ drop start entries
      → (AreInOrder entries → drop start entries ≡ entries_behind old.last_id entries)
      → ((group : Group) → AreDelivered number now noack (take left rest) new group
      → AreDelivered number now noack (take most all) between group)
      → take left rest ≡ []
      → HandsOut name now most noack entries old new
  all_delivered name most left start entries all rest old between new seen others is behind so_far none = record {
    number = number;
    between = between;
    seen = seen;
    stays = ap (λ (g : Group). g.pending.items) others;
    others = others ∙ sym (ap (λ (g : Group). record old {
      pending = g.pending;
      consumers = between.consumers;
      next_number = between.next_number;
    }) others);
    delivered = λ up. of_same all (entries_behind old.last_id entries) most between new (is ∙ behind up)
        (so_far new (nothing_more (take left rest) new none));
  }
