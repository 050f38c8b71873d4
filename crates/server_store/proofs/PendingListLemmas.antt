-- How what is pending in slots changes.
use Rattle.std.proofs.Common.{◌≡◌, ℕ, suc, ◌+◌, ◌-◌, ◌<◌, ◌≤◌, List, [], ◌∷◌, ◌++◌, true, false, length, get_or, set, take, drop, filter, Bool, Option, Some, None, IfNone, IfSome, Result, Ok, Err, refl, subst, sym, ap, inl, inr, ◌∙◌, arith}
use Rattle.std.proofs.lemmas.List.{append-nil, drop_at, get_or-take, get_or_at, get_or_default, length-append, length-take, set_at, take_at}
use Rattle.std.proofs.lemmas.Bool.{cases_lt}
use Rattle.std.proofs.lemmas.Bool.Decides.{nat_tests}
use Rattle.std.specs.Prelude.{OnErr}
use Rattle.std.specs.List.{AllByRecursion, Contains, HoldsAt, insert, remove}
use Rattle.std.specs.Ordering.{is_lt}
use Rattle.std.specs.declared.cmp.Ordering.TheVariants.{Less, Greater}
use Rattle.server_store.specs.Order.{id_order, IsAscending, IsGapFor, IsNowhere, IsSplitBefore}
use Rattle.server_store.specs.Pending.{pending_without}
use Rattle.server_store.specs.PendingList.{BeginsAt, IsInserted, IsReplaced, IsSound, IsTaken, PendingSlots, live, live_from, pending_behind, slot_of}
use Rattle.server_store.specs.declared.entry_id.EntryId.{EntryId}
use Rattle.server_store.specs.declared.group.Pending.{Pending}
use Rattle.server_store.specs.declared.pending_list.Slot.{Slot}
use Rattle.server_store.proofs.AscendLemmas.{ascending_insert, ascending_set, less_as}
use Rattle.server_store.proofs.OrderLemmas.{split_at, split_at_gap}
use Rattle.server_store.proofs.SlotLemmas.{all_before, all_behind, ascending_filter, ascending_live, for_other, length-others, before, before_within, insert_live, live_drop, live_parts, none_from, parted, parts_live, parts_marked, passed_from, set_live, set_marked, split_live}
use Rattle.server_store.proofs.WithoutLemmas.{gap_nowhere, without_one}

-- ---- one of a list in two parts

module _ (old new front behind : List Pending) where
  within_parts : (was : Pending) → old ≡ front ++ was ∷ behind → length front < length old
  within_parts was is = omega (arith, ap length is, length-append front (was ∷ behind))

  stood_in_parts : (was : Pending) → old ≡ front ++ was ∷ behind → get_or old (length front) was ≡ was
  stood_in_parts was is = rw is (get_or_at front was behind was (length front) refl)

  pub replaced_in_parts : (p was : Pending) → old ≡ front ++ was ∷ behind → new ≡ front ++ p ∷ behind → was.id ≡ p.id
      → IsReplaced p was old new
  replaced_in_parts p was is so named = record {
    index = length front;
    within = within_parts was is;
    stood = stood_in_parts was is;
    named = named;
    is = so ∙ sym (ap (λ (ps : List Pending). set ps (length front) p) is ∙ set_at front was behind p (length front) refl);
  }

  pub taken_from_parts : (was : Pending) → old ≡ front ++ was ∷ behind → new ≡ front ++ behind → IsTaken was old new
  taken_from_parts was is so =
      let others : remove (front ++ was ∷ behind) (length front) ≡ front ++ behind =
      rw (take_at front (was ∷ behind) (length front) refl, drop_one) refl in
      record {
        index = length front;
        within = within_parts was is;
        stood = stood_in_parts was is;
        others = so ∙ sym (ap (λ (ps : List Pending). remove ps (length front)) is ∙ others);
      }
    where
      long : length (front ++ was ∷ []) ≡ suc (length front)
      long = omega (arith, length-append front (was ∷ []))

      drop_one : drop (suc (length front)) (front ++ was ∷ behind) ≡ behind
      drop_one = ap (drop (suc (length front))) (sym (append_one front)) ∙ drop_at (front ++ was ∷ []) behind (suc (length front)) long
        where
          append_one : (xs : List Pending) → (xs ++ was ∷ []) ++ behind ≡ xs ++ was ∷ behind
          append_one [] = refl
          append_one (x ∷ xs) = ap (λ (ps : List Pending). x ∷ ps) (append_one xs)

  pub inserted_in_parts : (p : Pending) → old ≡ front ++ behind → new ≡ front ++ p ∷ behind
      → IsGapFor (λ q. q.id) p.id (front ++ behind) (length front) → IsInserted p old new
  inserted_in_parts p is so gap =
      let place : insert (front ++ behind) (length front) p ≡ front ++ p ∷ behind =
      rw (take_at front behind (length front) refl, drop_at front behind (length front) refl) refl in
      record {
        index = length front;
        within = omega (arith, ap length is, length-append front behind);
        place = rw is gap;
        is = so ∙ sym (ap (λ (ps : List Pending). insert ps (length front) p) is ∙ place);
      }

-- ---- a slot is filled

abbrev id_of : Slot → EntryId
id_of x = x.held.id

module _ (xs : List Slot) (n k : ℕ) (x : Slot) (lt : k < length xs) (at : x ≡ get_or xs k x) (sound : IsSound xs n) where
  at_any : (d : Slot) → get_or xs k d ≡ x
  at_any d = get_or_default xs k d x lt ∙ sym at

  named_at : (id : EntryId) → x.held.id ≡ id → HoldsAt (λ y. y.held.id ≡ id) xs k
  named_at id named d = ap id_of (at_any d) ∙ named

  module _ (p : Pending) (named : x.held.id ≡ p.id) where
    ascends : IsAscending id_of (set xs k (slot_of p))
    ascends = ascending_set id_of xs k (slot_of p) lt (named_at p.id named) sound.ascend

    -- in place of a live one
    pub replaced : x.is_live ≡ true → IsReplaced p x.held (live xs) (live (set xs k (slot_of p)))
    replaced lives =
        replaced_in_parts (live xs) (live (set xs k (slot_of p))) (live (take k xs)) (live_from xs (k + 1)) p x.held
        (parts_live xs k x lt at lives) (set_live xs k x lt at p) named

    pub replaced_was : (was : Pending) → (x.is_live ≡ true) × (x.held ≡ was) → IsReplaced p was (live xs) (live (set xs k (slot_of p)))
    replaced_was was (lives, is) = rw is at (replaced lives)

    pub replaced_sound : x.is_live ≡ true → IsSound (set xs k (slot_of p)) n
    replaced_sound lives =
        let was = ap length (parts_live xs k x lt at lives) in
        let is = ap length (set_live xs k x lt at p) in
        let a = length-append (live (take k xs)) (x.held ∷ live_from xs (k + 1)) in
        let b = length-append (live (take k xs)) (p ∷ live_from xs (k + 1)) in
        record { ascend = ascends; counted = omega (arith, sound.counted, was, is, a, b) }

    low : (j : ℕ) (d : Slot) → j < k → j < length xs → id_order (get_or xs j d).held.id p.id ≡ Less
    low j d less bound = rw (named_at p.id named d) at (sound.ascend j k d less lt)

    high : (j : ℕ) (d : Slot) → k + 1 ≤ j → j < length xs → id_order (get_or xs j d).held.id p.id ≡ Greater
    high j d le bound =
        let above : id_order p.id (get_or xs j d).held.id ≡ Less = rw (named_at p.id named d) at (sound.ascend k j d (omega (arith, le)) bound) in
        grind (arith, above)

    -- in place of a marked one
    gap : IsGapFor (λ q. q.id) p.id (live (take k xs) ++ live_from xs (k + 1)) (length (live (take k xs)))
    gap = parted (λ q. id_order q.id p.id ≡ Less) (λ q. id_order q.id p.id ≡ Greater) (live (take k xs)) (live_from xs (k + 1))
        (all_before (λ q. id_order q.id p.id ≡ Less) xs k low)
        (all_behind (λ q. id_order q.id p.id ≡ Greater) xs (k + 1) high)

    pub revived : x.is_live ≡ false → IsInserted p (live xs) (live (set xs k (slot_of p)))
    revived marked =
        inserted_in_parts (live xs) (live (set xs k (slot_of p))) (live (take k xs)) (live_from xs (k + 1)) p
        (parts_marked xs k x lt at marked) (set_live xs k x lt at p) gap

    pub revived_sound : x.is_live ≡ false → IsSound (set xs k (slot_of p)) (n + 1)
    revived_sound marked =
        let was = ap length (parts_marked xs k x lt at marked) in
        let is = ap length (set_live xs k x lt at p) in
        let a = length-append (live (take k xs)) (live_from xs (k + 1)) in
        let b = length-append (live (take k xs)) (p ∷ live_from xs (k + 1)) in
        record { ascend = ascends; counted = omega (arith, sound.counted, was, is, a, b) }

    -- the id of a marked one is nowhere
    pub marked_nowhere : x.is_live ≡ false → IsNowhere (λ q. q.id) p.id (live xs)
    marked_nowhere marked = rw (parts_marked xs k x lt at marked)
        (gap_nowhere p.id (live (take k xs) ++ live_from xs (k + 1)) (length (live (take k xs))) gap)

  -- ---- a slot is marked

  pub contained : x.is_live ≡ true → Contains (live xs) x.held
  contained lives =
      let is = parts_live xs k x lt at lives in (
        length (live (take k xs)),
        within_parts (live xs) (live xs) (live (take k xs)) (live_from xs (k + 1)) x.held is,
        stood_in_parts (live xs) (live xs) (live (take k xs)) (live_from xs (k + 1)) x.held is,
      )

  -- what a look-up gives
  pub contained_some : (r : Option Pending) → IfSome r (λ p. (x.is_live ≡ true) × (x.held ≡ p)) → IfSome r (λ p. Contains (live xs) p)
  contained_some None is = tt
  contained_some (Some p) (lives, is) = rw is at (contained lives)

  pub nowhere_marked : (id : EntryId) → HoldsAt (λ y. y.held.id ≡ id) xs k → x.is_live ≡ false → IsNowhere (λ q. q.id) id (live xs)
  nowhere_marked id named marked = marked_nowhere (record x.held { id = id }) (ap id_of at ∙ named x) marked

  pub nowhere_none : (r : Option Pending) (id : EntryId) → HoldsAt (λ y. y.held.id ≡ id) xs k → IfNone r (x.is_live ≡ false)
      → IfNone r (IsNowhere (λ q. q.id) id (live xs))
  nowhere_none None id named marked = nowhere_marked id named marked
  nowhere_none (Some p) id named is = tt

  module _ (y : Slot) (cleared : y.is_live ≡ false) (lives : x.is_live ≡ true) where
    pub taken : (ys : List Slot) → live ys ≡ live (set xs k y) → IsTaken x.held (live xs) (live ys)
    taken ys same =
        taken_from_parts (live xs) (live ys) (live (take k xs)) (live_from xs (k + 1)) x.held
        (parts_live xs k x lt at lives) (same ∙ set_marked xs k x lt at y cleared)

    pub taken_without : (id : EntryId) (ys : List Slot) → x.held.id ≡ id → live ys ≡ live (set xs k y)
        → live ys ≡ pending_without id (live xs)
    taken_without id ys named same =
        let t = taken ys same in
        t.others ∙ without_one id (live xs) t.index t.within
        (λ d. ap (λ (p : Pending). p.id) (get_or_default (live xs) t.index d x.held t.within ∙ t.stood) ∙ named)
        (ascending_live xs sound.ascend)

    pub taken_sound : (ys : List Slot) → y.held.id ≡ x.held.id → live ys ≡ live (set xs k y)
        → (IsAscending id_of (set xs k y) → IsAscending id_of ys) → IsSound ys (n - 1)
    taken_sound ys named same up =
        let was = ap length (parts_live xs k x lt at lives) in
        let is = ap length (same ∙ set_marked xs k x lt at y cleared) in
        let a = length-append (live (take k xs)) (x.held ∷ live_from xs (k + 1)) in
        let b = length-append (live (take k xs)) (live_from xs (k + 1)) in
        record {
          ascend = up (ascending_set id_of xs k y lt (named_at y.held.id (sym named)) sound.ascend);
          counted = omega (arith, sound.counted, was, is, a, b);
        }

-- ---- a slot is inserted

module _ (xs : List Slot) (n k : ℕ) (p : Pending) (le : k ≤ length xs) (gap : IsGapFor id_of p.id xs k) (sound : IsSound xs n) where
  live_gap : IsGapFor (λ q. q.id) p.id (live xs) (before k xs)
  live_gap = split_live (λ q. id_order q.id p.id ≡ Less) (λ q. id_order q.id p.id ≡ Greater) xs k gap

  pub inserted : IsInserted p (live xs) (live (insert xs k (slot_of p)))
  inserted = inserted_in_parts (live xs) (live (insert xs k (slot_of p))) (live (take k xs)) (live_from xs k) p
      (live_parts xs k) (insert_live xs k p) (rw (live_parts xs k) at live_gap)

  pub inserted_sound : IsSound (insert xs k (slot_of p)) (n + 1)
  inserted_sound =
      let was = ap length (live_parts xs k) in
      let is = ap length (insert_live xs k p) in
      let a = length-append (live (take k xs)) (live_from xs k) in
      let b = length-append (live (take k xs)) (p ∷ live_from xs k) in
      record {
        ascend = ascending_insert id_of xs k (slot_of p) le gap sound.ascend;
        counted = omega (arith, sound.counted, was, is, a, b);
      }

-- ---- where an id is

-- no slot has the id
pub nowhere_live : (id : EntryId) (xs : List Slot) (k : ℕ) → IsGapFor id_of id xs k → IsNowhere (λ q. q.id) id (live xs)
nowhere_live id xs k gap = gap_nowhere id (live xs) (before k xs)
    (split_live (λ q. id_order q.id id ≡ Less) (λ q. id_order q.id id ≡ Greater) xs k gap)

abbrev seen : List Slot → ℕ → PendingSlots
seen xs capacity = record { items = live xs; slots = xs; capacity = capacity }

begins_by : (id : EntryId) (xs : List Slot) (capacity k : ℕ) → IsSplitBefore id_of id xs k → BeginsAt id (seen xs capacity) k
begins_by id xs capacity k split = record {
  index = before k xs;
  within = before_within xs k;
  split = split_live (λ q. id_order q.id id ≡ Less) (λ q. id_order q.id id ≡ Less → ⊥) xs k split;
  rest = live_drop xs k;
}

pub begins_at : (id : EntryId) (xs : List Slot) (n capacity k : ℕ) → IsSound xs n → k < length xs
    → HoldsAt (λ x. x.held.id ≡ id) xs k → BeginsAt id (seen xs capacity) k
begins_at id xs n capacity k sound lt named = begins_by id xs capacity k (split_at id_of xs id k lt named sound.ascend)

pub begins_at_gap : (id : EntryId) (xs : List Slot) (capacity k : ℕ) → IsGapFor id_of id xs k → BeginsAt id (seen xs capacity) k
begins_at_gap id xs capacity k gap = begins_by id xs capacity k (split_at_gap id_of xs id k gap)

filter_parts : (test : Pending → Bool) (front behind : List Pending) → AllByRecursion (λ p. test p ≡ false) front
    → AllByRecursion (λ p. test p ≡ true) behind → behind ≡ filter test (front ++ behind)
filter_parts test [] [] none all = refl
filter_parts test [] (b ∷ behind) none all = rw all.0 (ap (λ (ps : List Pending). b ∷ ps) (filter_parts test [] behind tt all.1))
filter_parts test (a ∷ front) behind none all = rw none.0 (filter_parts test front behind none.1 all)

not_behind : (a b : EntryId) → id_order b a ≡ Less → is_lt (id_order a b) ≡ false
not_behind a b less = grind (arith, nat_tests, less)

not_itself : (a b : EntryId) → b ≡ a → is_lt (id_order a b) ≡ false
not_itself a b is = grind (arith, nat_tests, is)

is_behind : (a b : EntryId) → id_order b a ≡ Greater → is_lt (id_order a b) ≡ true
is_behind a b greater = grind (arith, nat_tests, greater)

module _ (id : EntryId) (xs : List Slot) where
  behind_by : (k : ℕ) → ((j : ℕ) (d : Slot) → j < k → j < length xs → is_lt (id_order id (get_or xs j d).held.id) ≡ false)
      → ((j : ℕ) (d : Slot) → k ≤ j → j < length xs → is_lt (id_order id (get_or xs j d).held.id) ≡ true)
      → live_from xs k ≡ pending_behind id (live xs)
  behind_by k low high = rw (live_parts xs k)
      (filter_parts (λ p. is_lt (id_order id p.id)) (live (take k xs)) (live_from xs k)
      (all_before (λ p. is_lt (id_order id p.id) ≡ false) xs k low)
      (all_behind (λ p. is_lt (id_order id p.id) ≡ true) xs k high))

  -- from the gap of the id on
  pub behind_gap : (k : ℕ) → IsGapFor id_of id xs k → live_from xs k ≡ pending_behind id (live xs)
  behind_gap k gap = behind_by k (λ j d lt bound. not_behind id _ (gap.0 j d (omega arith) lt)) (λ j d at bound. is_behind id _ (gap.1 j d at bound))

  -- after the one with the id
  pub behind_it : (n k : ℕ) → IsSound xs n → k < length xs → HoldsAt (λ x. x.held.id ≡ id) xs k
      → live_from xs (k + 1) ≡ pending_behind id (live xs)
  behind_it n k sound within named =
      behind_by (k + 1) low (λ j d at bound. ap is_lt (rw (named d) at (sound.ascend k j d (omega (arith, at)) bound)))
    where
      low : (j : ℕ) (d : Slot) → j < k + 1 → j < length xs → is_lt (id_order id (get_or xs j d).held.id) ≡ false
      low j d lt bound = elim (cases_lt j k) [
        | inl less ↦ not_behind id _ (rw (named d) at (sound.ascend j k d less within))
        | inr ge ↦
            let is : j ≡ k = omega arith in
            not_itself id _ (ap (λ i. id_of (get_or xs i d)) is ∙ named d)
      ]

-- ---- marked slots at the ends

pub front_marked : (xs ys : List Slot) (x : Slot) → 0 < length xs → x ≡ get_or xs 0 x → x.is_live ≡ false → ys ≡ drop 1 xs
    → live ys ≡ live xs
front_marked xs ys x some at marked is = ap live is ∙ sym (passed_from xs 0 x some at marked)

pub back_marked : (xs ys : List Slot) (x : Slot) (k : ℕ) → k + 1 ≡ length xs → x ≡ get_or xs k x → x.is_live ≡ false
    → ys ≡ take k xs → live ys ≡ live xs
back_marked xs ys x k last at marked is =
    ap live is ∙ sym (parts_marked xs k x (omega (arith, last)) at marked
    ∙ ap (λ (ps : List Pending). live (take k xs) ++ ps) (none_from xs (k + 1) (omega (arith, last)))
    ∙ append-nil (live (take k xs)))

pub ascending_take : {X : Type 0} (key : X → EntryId) (n : ℕ) (xs : List X) → IsAscending key xs → IsAscending key (take n xs)
ascending_take key n xs up a b d lt bound =
    let long = length-take n xs in
    less_as key _ _ _ _ (get_or-take n xs a d (omega (arith, bound, lt))) (get_or-take n xs b d (omega (arith, bound)))
    (up a b d lt (omega (arith, bound)))

-- the last live one
pub last_of : (xs : List Slot) (k : ℕ) (x : Slot) → k < length xs → x ≡ get_or xs k x → x.is_live ≡ true → live_from xs (k + 1) ≡ []
    → live xs ≡ live (take k xs) ++ x.held ∷ []
last_of xs k x lt at lives none =
    parts_live xs k x lt at lives ∙ ap (λ (ps : List Pending). live (take k xs) ++ x.held ∷ ps) none

pub last_live : (xs : List Slot) (i : ℕ) (x : Slot) (p : Pending) → 0 < i → i ≤ length xs → x ≡ get_or xs (i - 1) x
    → (x.is_live ≡ true) × (x.held ≡ p) → live_from xs i ≡ [] → (front : List Pending) × (live xs ≡ front ++ p ∷ [])
last_live xs i x p some within at (lives, is) none =
    let e : (i - 1) + 1 ≡ i = omega (arith, some) in
    let behind : live_from xs ((i - 1) + 1) ≡ [] = rw e none in (
      live (take (i - 1) xs),
      last_of xs (i - 1) x (omega (arith, some, within)) at lives behind
          ∙ ap (λ (q : Pending). live (take (i - 1) xs) ++ q ∷ []) is,
    )

-- the first one is taken out
pub popped_sound : (xs ys zs : List Slot) (x : Slot) (n : ℕ) → IsSound xs n → live ys ≡ live xs
    → (IsAscending id_of xs → IsAscending id_of ys) → ys ≡ x ∷ zs
    → (0 < length ys → HoldsAt (λ y. y.is_live ≡ true) ys 0) → IsSound zs (n - 1)
popped_sound xs ys zs x n sound same up is first =
    let some : 0 < length ys = omega (arith, ap length is) in
    let lives : x.is_live ≡ true = ap (λ (y : Slot). y.is_live) (ap (λ (us : List Slot). get_or us 0 x) (sym is)) ∙ first some x in
    let one : live (x ∷ zs) ≡ x.held ∷ live zs = rw lives refl in
    let long : length (live xs) ≡ suc (length (live zs)) = ap length (sym same ∙ ap live is ∙ one) in
    let rises : IsAscending id_of (x ∷ zs) = rw is at (up sound.ascend) in
    record {
      ascend = λ i j d lt bound. rises (suc i) (suc j) d (omega (arith, lt)) (omega (arith, bound));
      counted = omega (arith, sound.counted, long);
    }

-- what is left of retaining some
pub others_sound : (number : ℕ) (xs ys : List Slot) (n m : ℕ) → IsSound xs n → ys ≡ filter (for_other number) xs → m ≡ length ys
    → IsSound ys m
others_sound number xs ys n m sound is len = record {
  ascend = rw is (ascending_filter id_of (for_other number) xs sound.ascend);
  counted = len ∙ ap length is ∙ length-others number xs ∙ ap (λ (us : List Slot). length (live us)) (sym is);
}

pub on_err : {T E : Type 0} (P : Type 0) (r : Result T E) → P → OnErr r P
on_err P (Ok t) is = tt
on_err P (Err e) is = is

-- ---- one is removed

module _ (xs ys : List Slot) (n k : ℕ) (x z : Slot) (was : Pending) (lt : k < length xs) (at_x : x ≡ get_or xs k x)
    (at_z : z ≡ get_or xs k z) (sound : IsSound xs n) (is : (x.is_live ≡ true) × (x.held ≡ was)) where
  z_is : x ≡ z
  z_is = at_x ∙ get_or_default xs k x z lt ∙ sym at_z

  z_lives : z.is_live ≡ true
  z_lives = ap (λ (s : Slot). s.is_live) (sym z_is) ∙ is.0

  z_held : z.held ≡ was
  z_held = ap (λ (s : Slot). s.held) (sym z_is) ∙ is.1

  pub some_live : 1 ≤ n
  some_live = omega (
    arith,
    sound.counted,
    ap length (parts_live xs k z lt at_z z_lives),
    length-append (live (take k xs)) (z.held ∷ live_from xs (k + 1)),
  )

  module _ (same : live ys ≡ live (set xs k (record z { is_live = false }))) where
    pub removed : IsTaken was (live xs) (live ys)
    removed = subst (λ (p : Pending). IsTaken p (live xs) (live ys)) z_held
        (taken xs n k z lt at_z sound (record z { is_live = false }) refl z_lives ys same)

    pub removed_without : (id : EntryId) → HoldsAt (λ y. y.held.id ≡ id) xs k → live ys ≡ pending_without id (live xs)
    removed_without id named =
        taken_without xs n k z lt at_z sound (record z { is_live = false }) refl z_lives id ys (ap id_of at_z ∙ named z) same

    pub removed_sound : (IsAscending id_of (set xs k (record z { is_live = false })) → IsAscending id_of ys) → IsSound ys (n - 1)
    removed_sound up = taken_sound xs n k z lt at_z sound (record z { is_live = false }) refl z_lives ys refl same up
