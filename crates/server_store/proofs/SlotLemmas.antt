-- What is live of slots.
use Rattle.std.proofs.Common.{◌≡◌, ℕ, zero, suc, ◌+◌, ◌-◌, ◌<◌, ◌≤◌, List, [], ◌∷◌, ◌++◌, Bool, true, false, cond, not, ◌&&◌, length, get_or, set, take, drop, filter, refl, sym, ap, ◌∙◌, arith}
use Rattle.std.proofs.lemmas.List.{drop_at, drop_more, drop_all, get_or_append_left, get_or-append_right, length-append, set_split, take-append-drop}
use Rattle.std.specs.Prelude.{◌==◌}
use Rattle.std.specs.List.{AllByRecursion, insert}
use Rattle.std.specs.List.Sorted.{IsPartitionPoint}
use Rattle.std.specs.declared.cmp.Ordering.TheVariants.{Less}
use Rattle.server_store.specs.Consumers.{pending_for_others}
use Rattle.server_store.specs.Order.{id_order, IsAscending}
use Rattle.server_store.specs.PendingList.{live, live_from, slot_of}
use Rattle.server_store.specs.declared.entry_id.EntryId.{EntryId}
use Rattle.server_store.specs.declared.group.Pending.{Pending}
use Rattle.server_store.specs.declared.pending_list.Slot.{Slot}

-- ---- the live ones of a part

live-append : (xs ys : List Slot) → live (xs ++ ys) ≡ live xs ++ live ys
live-append [] ys = refl
live-append (x ∷ xs) ys = by x.is_live (live-append xs ys)
  where
    by : (b : Bool) → live (xs ++ ys) ≡ live xs ++ live ys → cond b (x.held ∷ live (xs ++ ys)) (live (xs ++ ys)) ≡ cond b (x.held ∷ live xs) (live xs) ++ live ys
    by true rest = ap (λ (ps : List Pending). x.held ∷ ps) rest
    by false rest = rest

-- how many are live before an index
abbrev pub before : ℕ → List Slot → ℕ
before k xs = length (live (take k xs))

pub live_parts : (xs : List Slot) (k : ℕ) → live xs ≡ live (take k xs) ++ live_from xs k
live_parts xs k = ap live (sym (take-append-drop k xs)) ∙ live-append (take k xs) (drop k xs)

pub before_within : (xs : List Slot) (k : ℕ) → before k xs ≤ length (live xs)
before_within xs k = omega (arith, ap length (live_parts xs k), length-append (live (take k xs)) (live_from xs k))

-- those from an index on
pub live_drop : (xs : List Slot) (k : ℕ) → live_from xs k ≡ drop (before k xs) (live xs)
live_drop xs k =
    sym (ap (drop (before k xs)) (live_parts xs k) ∙ drop_at (live (take k xs)) (live_from xs k) (before k xs) refl)

-- none is live past the end
pub none_from : (xs : List Slot) (k : ℕ) → length xs ≤ k → live_from xs k ≡ []
none_from xs k past = ap live (drop_all k xs past)

module _ (xs : List Slot) (k : ℕ) (x : Slot) (lt : k < length xs) (at : x ≡ get_or xs k x) where
  step : drop k xs ≡ x ∷ drop (k + 1) xs
  step = drop_more xs k x lt ∙ ap (λ (y : Slot). y ∷ drop (k + 1) xs) (sym at)

  -- a live one, and those after it
  pub one_from : x.is_live ≡ true → live_from xs k ≡ x.held ∷ live_from xs (k + 1)
  one_from lives =
      let first : live (x ∷ drop (k + 1) xs) ≡ x.held ∷ live_from xs (k + 1) = rw lives refl in
      ap live step ∙ first

  -- a marked one, and those after it
  pub passed_from : x.is_live ≡ false → live_from xs k ≡ live_from xs (k + 1)
  passed_from marked =
      let rest : live (x ∷ drop (k + 1) xs) ≡ live_from xs (k + 1) = rw marked refl in
      ap live step ∙ rest

  abbrev front : List Pending
  front = live (take k xs)

  abbrev behind : List Pending
  behind = live_from xs (k + 1)

  pub parts_live : x.is_live ≡ true → live xs ≡ front ++ x.held ∷ behind
  parts_live lives = live_parts xs k ∙ ap (λ (ps : List Pending). front ++ ps) (one_from lives)

  pub parts_marked : x.is_live ≡ false → live xs ≡ front ++ behind
  parts_marked marked = live_parts xs k ∙ ap (λ (ps : List Pending). front ++ ps) (passed_from marked)

  -- another slot in its place
  set_parts : (y : Slot) → live (set xs k y) ≡ front ++ live (y ∷ drop (suc k) xs)
  set_parts y = ap live (set_split xs k y lt) ∙ live-append (take k xs) (y ∷ drop (suc k) xs)

  same_rest : live (drop (suc k) xs) ≡ behind
  same_rest = let e : suc k ≡ k + 1 = omega arith in ap (λ (n : ℕ). live (drop n xs)) e

  pub set_live : (p : Pending) → live (set xs k (slot_of p)) ≡ front ++ p ∷ behind
  set_live p = set_parts (slot_of p) ∙ ap (λ (ps : List Pending). front ++ p ∷ ps) same_rest

  pub set_marked : (y : Slot) → y.is_live ≡ false → live (set xs k y) ≡ front ++ behind
  set_marked y marked =
      let rest : live (y ∷ drop (suc k) xs) ≡ live (drop (suc k) xs) = rw marked refl in
      set_parts y ∙ ap (λ (ps : List Pending). front ++ ps) (rest ∙ same_rest)

pub insert_live : (xs : List Slot) (k : ℕ) (p : Pending) → live (insert xs k (slot_of p)) ≡ live (take k xs) ++ p ∷ live_from xs k
insert_live xs k p = live-append (take k xs) (slot_of p ∷ drop k xs)

-- ---- what holds of all

kept : (P : Pending → Type 0) (b : Bool) (p : Pending) (ps : List Pending) → P p → AllByRecursion P ps
    → AllByRecursion P (cond b (p ∷ ps) ps)
kept P true p ps is all = (is, all)
kept P false p ps is all = all

-- of those before an index
pub all_before : (P : Pending → Type 0) (xs : List Slot) (k : ℕ)
    → ((j : ℕ) (d : Slot) → j < k → j < length xs → P (get_or xs j d).held) → AllByRecursion P (live (take k xs))
all_before P [] zero is = tt
all_before P [] (suc k) is = tt
all_before P (x ∷ xs) zero is = tt
all_before P (x ∷ xs) (suc k) is =
    kept P x.is_live x.held (live (take k xs)) (is 0 x (omega arith) (omega arith))
    (all_before P xs k (λ j d lt bound. is (suc j) d (omega (arith, lt)) (omega (arith, bound))))

-- of those from an index on
pub all_behind : (P : Pending → Type 0) (xs : List Slot) (k : ℕ)
    → ((j : ℕ) (d : Slot) → k ≤ j → j < length xs → P (get_or xs j d).held) → AllByRecursion P (live (drop k xs))
all_behind P [] zero is = tt
all_behind P [] (suc k) is = tt
all_behind P (x ∷ xs) zero is =
    kept P x.is_live x.held (live xs) (is 0 x (omega arith) (omega arith))
    (all_behind P xs zero (λ j d le bound. is (suc j) d (omega arith) (omega (arith, bound))))
all_behind P (x ∷ xs) (suc k) is =
    all_behind P xs k (λ j d le bound. is (suc j) d (omega (arith, le)) (omega (arith, bound)))

at_index : {X : Type 0} (P : X → Type 0) (xs : List X) → AllByRecursion P xs → (j : ℕ) (d : X) → j < length xs → P (get_or xs j d)
at_index P [] all j d lt = absurd (omega (arith, lt))
at_index P (x ∷ xs) all zero d lt = all.0
at_index P (x ∷ xs) all (suc j) d lt = at_index P xs all.1 j d (omega (arith, lt))

-- two parts of a list
pub parted : (P Q : Pending → Type 0) (ps qs : List Pending) → AllByRecursion P ps → AllByRecursion Q qs
    → IsPartitionPoint P Q (ps ++ qs) (length ps)
parted P Q ps qs a b = (
  λ j d low lt. rw (get_or_append_left ps qs d j lt) (at_index P ps a j d lt),
  λ j d le lt. rw (get_or-append_right ps qs (length ps) j d refl le)
      (at_index Q qs b (j - length ps) d (omega (arith, le, lt, length-append ps qs))),
)

-- a split of the slots is one of those that are live
pub split_live : (P Q : Pending → Type 0) (xs : List Slot) (k : ℕ)
    → IsPartitionPoint (λ (x : Slot). P x.held) (λ (x : Slot). Q x.held) xs k → IsPartitionPoint P Q (live xs) (before k xs)
split_live P Q xs k split =
    rw (live_parts xs k) (parted P Q (live (take k xs)) (live_from xs k)
    (all_before P xs k (λ j d lt bound. split.0 j d (omega arith) lt))
    (all_behind Q xs k (λ j d le bound. split.1 j d le bound)))

-- ---- the order

abbrev Rises : {X : Type 0} → (X → EntryId) → List X → Type 0
Rises id_of [] = Unit {0}
Rises id_of (x ∷ xs) = AllByRecursion (λ y. id_order (id_of x) (id_of y) ≡ Less) xs × Rises id_of xs

all_from : {X : Type 0} (P : X → Type 0) (xs : List X) → ((j : ℕ) (d : X) → j < length xs → P (get_or xs j d)) → AllByRecursion P xs
all_from P [] is = tt
all_from P (x ∷ xs) is = (is 0 x (omega arith), all_from P xs (λ j d lt. is (suc j) d (omega (arith, lt))))

rises_from : {X : Type 0} (id_of : X → EntryId) (xs : List X) → IsAscending id_of xs → Rises id_of xs
rises_from id_of [] up = tt
rises_from id_of (x ∷ xs) up = (
  all_from (λ y. id_order (id_of x) (id_of y) ≡ Less) xs (λ j d lt. up 0 (suc j) d (omega arith) (omega (arith, lt))),
  rises_from id_of xs (λ i j d lt bound. up (suc i) (suc j) d (omega (arith, lt)) (omega (arith, bound))),
)

rises_to : {X : Type 0} (id_of : X → EntryId) (xs : List X) → Rises id_of xs → IsAscending id_of xs
rises_to id_of [] rise i j d lt bound = absurd (omega (arith, bound))
rises_to id_of (x ∷ xs) rise i zero d lt bound = absurd (omega (arith, lt))
rises_to id_of (x ∷ xs) rise zero (suc j) d lt bound =
    at_index (λ y. id_order (id_of x) (id_of y) ≡ Less) xs rise.0 j d (omega (arith, bound))
rises_to id_of (x ∷ xs) rise (suc i) (suc j) d lt bound =
    rises_to id_of xs rise.1 i j d (omega (arith, lt)) (omega (arith, bound))

all_live : (P : Pending → Type 0) (xs : List Slot) → AllByRecursion (λ (x : Slot). P x.held) xs → AllByRecursion P (live xs)
all_live P [] all = tt
all_live P (x ∷ xs) all = kept P x.is_live x.held (live xs) all.0 (all_live P xs all.1)

rises_live : (xs : List Slot) → Rises (λ (x : Slot). x.held.id) xs → Rises (λ (p : Pending). p.id) (live xs)
rises_live [] rise = tt
rises_live (x ∷ xs) rise = by x.is_live (rises_live xs rise.1)
  where
    by : (b : Bool) → Rises (λ (p : Pending). p.id) (live xs) → Rises (λ (p : Pending). p.id) (cond b (x.held ∷ live xs) (live xs))
    by true rest = (all_live (λ p. id_order x.held.id p.id ≡ Less) xs rise.0, rest)
    by false rest = rest

-- the ids of what is live ascend if those of all slots do
pub ascending_live : (xs : List Slot) → IsAscending (λ (x : Slot). x.held.id) xs → IsAscending (λ (p : Pending). p.id) (live xs)
ascending_live xs up = rises_to (λ p. p.id) (live xs) (rises_live xs (rises_from (λ x. x.held.id) xs up))

all_filter : {X : Type 0} (P : X → Type 0) (test : X → Bool) (xs : List X) → AllByRecursion P xs → AllByRecursion P (filter test xs)
all_filter P test [] all = tt
all_filter {X} P test (x ∷ xs) all = by (test x) (all_filter P test xs all.1)
  where
    by : (b : Bool) → AllByRecursion P (filter test xs) → AllByRecursion P (cond b (x ∷ filter test xs) (filter test xs))
    by true rest = (all.0, rest)
    by false rest = rest

rises_filter : {X : Type 0} (id_of : X → EntryId) (test : X → Bool) (xs : List X) → Rises id_of xs → Rises id_of (filter test xs)
rises_filter id_of test [] rise = tt
rises_filter {X} id_of test (x ∷ xs) rise = by (test x) (rises_filter id_of test xs rise.1)
  where
    by : (b : Bool) → Rises id_of (filter test xs) → Rises id_of (cond b (x ∷ filter test xs) (filter test xs))
    by true rest = (all_filter (λ y. id_order (id_of x) (id_of y) ≡ Less) test xs rise.0, rest)
    by false rest = rest

pub ascending_filter : {X : Type 0} (id_of : X → EntryId) (test : X → Bool) (xs : List X) → IsAscending id_of xs
    → IsAscending id_of (filter test xs)
ascending_filter id_of test xs up = rises_to id_of (filter test xs) (rises_filter id_of test xs (rises_from id_of xs up))

-- ---- how many

pub length-live : (xs : List Slot) → length (live xs) ≤ length xs
length-live [] = omega arith
length-live (x ∷ xs) = by x.is_live (length-live xs)
  where
    by : (b : Bool) → length (live xs) ≤ length xs → length (cond b (x.held ∷ live xs) (live xs)) ≤ suc (length xs)
    by true rest = omega (arith, rest)
    by false rest = omega (arith, rest)

-- ---- without the marked ones

abbrev pub is_live : Slot → Bool
is_live x = x.is_live

pub filter_live : (xs : List Slot) → live (filter is_live xs) ≡ live xs
filter_live [] = refl
filter_live (x ∷ xs) = by x.is_live refl (filter_live xs)
  where
    by : (b : Bool) → x.is_live ≡ b → live (filter is_live xs) ≡ live xs → live (cond b (x ∷ filter is_live xs) (filter is_live xs)) ≡ cond b (x.held ∷ live xs) (live xs)
    by true lives rest = rw lives (ap (λ (ps : List Pending). x.held ∷ ps) rest)
    by false marked rest = rest

-- the live ones for others than the consumer of this number
abbrev pub for_other : ℕ → Slot → Bool
for_other number x = x.is_live && not (x.held.consumer == number)

pub filter_others : (number : ℕ) (xs : List Slot) → live (filter (for_other number) xs) ≡ pending_for_others number (live xs)
filter_others number [] = refl
filter_others number (x ∷ xs) = by x.is_live refl (not (x.held.consumer == number)) refl (filter_others number xs)
  where
    by : (b : Bool) → x.is_live ≡ b → (c : Bool) → not (x.held.consumer == number) ≡ c
        → live (filter (for_other number) xs) ≡ pending_for_others number (live xs)
        → live (cond (b && c) (x ∷ filter (for_other number) xs) (filter (for_other number) xs))
        ≡ pending_for_others number (cond b (x.held ∷ live xs) (live xs))
    by true lives true other rest = rw (lives, other) (ap (λ (ps : List Pending). x.held ∷ ps) rest)
    by true lives false mine rest = rw mine rest
    by false marked c other rest = rest

pub length-others : (number : ℕ) (xs : List Slot)
    → length (filter (for_other number) xs) ≡ length (live (filter (for_other number) xs))
length-others number [] = refl
length-others number (x ∷ xs) = by x.is_live refl (not (x.held.consumer == number)) (length-others number xs)
  where
    by : (b : Bool) → x.is_live ≡ b → (c : Bool)
        → length (filter (for_other number) xs) ≡ length (live (filter (for_other number) xs))
        → length (cond (b && c) (x ∷ filter (for_other number) xs) (filter (for_other number) xs))
        ≡ length (live (cond (b && c) (x ∷ filter (for_other number) xs) (filter (for_other number) xs)))
    by true lives true rest = rw lives (ap suc rest)
    by true lives false rest = rest
    by false marked c rest = rest
