-- What a claim finds, and what it makes of what is pending.
use Rattle.std.proofs.Common.{◌≡◌, ◌<◌, ◌-◌, ◌++◌, ℕ, zero, suc, Bool, true, false, List, [], ◌∷◌, filter, drop, length, get_or, refl, sym, ap, ◌∙◌, inl, inr, arith}
use mathlib.Core.Bool.{true≢false}
use Rattle.std.proofs.lemmas.Bool.{cases_Bool}
use Rattle.std.proofs.lemmas.Bool.Decides.{nat_tests}
use Rattle.std.specs.Prelude.{not, ◌==◌, ◌||◌, nat_le}
use Rattle.std.specs.List.{AllByRecursion}
use Rattle.std.specs.Ordering.{is_eq}
use Rattle.std.specs.declared.cmp.Ordering.{Ordering}
use Rattle.std.specs.declared.cmp.Ordering.TheVariants.{Less, Equal, Greater}
use Rattle.server_store.specs.Laws.{AreInOrder}
use Rattle.server_store.specs.Order.{id_order, IsAscending}
use Rattle.server_store.specs.Pending.{pending_without}
use Rattle.server_store.specs.declared.entry_id.EntryId.{EntryId}
use Rattle.server_store.specs.declared.group.Pending.{Pending}
use Rattle.server_store.specs.declared.stream.Entry.{Entry}
use Rattle.server_commands.specs.Acknowledging.{pending_without_all}
use Rattle.server_commands.specs.Claiming.{entries_with, entry_with, ids_of, is_among}
use Rattle.server_commands.specs.Stalled.{Found, found_in, has_entry}
use Rattle.server_commands.proofs.ModelLemmas.{filter_all, filter_neither, filter_same}

-- ---- lists

pub all_so : {A : Type 0} (P Q : A → Type 0) → ((x : A) → P x → Q x) → (xs : List A) → AllByRecursion P xs → AllByRecursion Q xs
all_so P Q f [] all = tt
all_so P Q f (x ∷ xs) all = (f x all.0, all_so P Q f xs all.1)

pub all_both : {A : Type 0} (P Q R : A → Type 0) → ((x : A) → P x → Q x → R x) → (xs : List A) → AllByRecursion P xs
    → AllByRecursion Q xs → AllByRecursion R xs
all_both P Q R f [] all more = tt
all_both P Q R f (x ∷ xs) all more = (f x all.0 more.0, all_both P Q R f xs all.1 more.1)

pub all_drop : {A : Type 0} (P : A → Type 0) (n : ℕ) (xs : List A) → AllByRecursion P xs → AllByRecursion P (drop n xs)
all_drop P zero xs all = all
all_drop P (suc n) [] all = tt
all_drop P (suc n) (x ∷ xs) all = all_drop P n xs all.1

pub all_of : {A : Type 0} (P : A → Type 0) (xs : List A) → ((k : ℕ) (d : A) → k < length xs → P (get_or xs k d)) → AllByRecursion P xs
all_of P [] each = tt
all_of P (x ∷ xs) each = (each 0 x (omega arith), all_of P xs (λ k d lt. each (suc k) d (omega (arith, lt))))

pub all_at : {A : Type 0} (P : A → Type 0) (xs : List A) → AllByRecursion P xs → (k : ℕ) (d : A) → k < length xs → P (get_or xs k d)
all_at P [] all k d lt = absurd (omega (arith, lt))
all_at P (x ∷ xs) all zero d lt = all.0
all_at P (x ∷ xs) all (suc k) d lt = all_at P xs all.1 k d (omega (arith, lt))

pub filter_holds : {A : Type 0} (p : A → Bool) (xs : List A) → AllByRecursion (λ x. p x ≡ true) (filter p xs)
filter_holds p [] = tt
filter_holds p (x ∷ xs) = elim (cases_Bool (p x)) [
  | inl t ↦ rw t (t, filter_holds p xs)
  | inr f ↦ rw f (filter_holds p xs)
]

-- what holds of those that pass and of those that do not holds of all
pub all_parts : {A : Type 0} (P : A → Type 0) (p : A → Bool) (xs : List A) → AllByRecursion P (filter (λ x. not (p x)) xs)
    → AllByRecursion P (filter p xs) → AllByRecursion P xs
all_parts P p [] fails passes = tt
all_parts P p (x ∷ xs) fails passes = elim (cases_Bool (p x)) [
  | inl t ↦
      let rest = rw t at fails in
      let first = rw t at passes in
      (first.0, all_parts P p xs rest first.1)
  | inr f ↦
      let first = rw f at fails in
      let rest = rw f at passes in
      (first.0, all_parts P p xs first.1 rest)
]

-- ---- ids

pub same : (a b : EntryId) → id_order a b ≡ Equal → a ≡ b
same a b equal = grind (arith, nat_tests)

pub equal : (a b : EntryId) → a ≡ b → is_eq (id_order a b) ≡ true
equal a b is = grind (arith, nat_tests, is)

eq_of : (o : Ordering) → is_eq o ≡ true → o ≡ Equal
eq_of Less e = absurd (true≢false (sym e))
eq_of Equal e = refl
eq_of Greater e = absurd (true≢false (sym e))

pub is_same : (a b : EntryId) → is_eq (id_order a b) ≡ true → a ≡ b
is_same a b e = same a b (eq_of (id_order a b) e)

pub over : (a b c : EntryId) → id_order a b ≡ Less → id_order b c ≡ Less → id_order a c ≡ Less
over a b c less more = grind (arith, nat_tests, less, more)

-- neither is the other
pub apart_up : (a b : EntryId) → id_order a b ≡ Less → is_eq (id_order a b) ≡ false
apart_up a b less = ap is_eq less

pub apart_down : (a b : EntryId) → id_order a b ≡ Less → is_eq (id_order b a) ≡ false
apart_down a b less = grind (arith, nat_tests, less)

-- ---- what is found

module _ (entries : List Entry) (now idle : ℕ) where
  abbrev Finds : ℕ → ℕ → List Pending → Found
  Finds attempts left pending = found_in entries now idle attempts left pending

  -- what is claimed has an entry, and what is gone has none
  pub record IsTrueOf (found : Found) : Type 0 where
    pub claimed : AllByRecursion (λ p. has_entry p.id entries ≡ true) found.claimed
    pub gone : AllByRecursion (λ id. has_entry id entries ≡ false) found.gone

  pub found_true : (attempts left : ℕ) (pending : List Pending) → IsTrueOf (Finds attempts left pending)
  found_true attempts left [] = record { claimed = tt; gone = tt }
  found_true attempts left (p ∷ pending) = elim (cases_Bool ((attempts == 0) || (left == 0))) [
    | inl t ↦ rw t (record { claimed = tt; gone = tt })
    | inr f ↦ rw f (elim (cases_Bool (has_entry p.id entries)) [
      | inl there ↦ rw there (elim (cases_Bool (nat_le idle (now - p.given_at))) [
        | inl long ↦
            let rest = found_true (attempts - 1) (left - 1) pending in
            rw long (record { claimed = (there, rest.claimed); gone = rest.gone })
        | inr short ↦ rw short (found_true (attempts - 1) left pending)
      ])
      | inr none ↦
          let rest = found_true (attempts - 1) (left - 1) pending in
          rw none (record { claimed = rest.claimed; gone = (none, rest.gone) })
    ])
  ]

  module _ (P : Pending → Type 0) (Q : EntryId → Type 0) (f : (p : Pending) → P p → Q p.id) where
    -- what holds of what is pending holds of what is claimed and gone
    pub record AllFound (found : Found) : Type 0 where
      pub claimed : AllByRecursion P found.claimed
      pub gone : AllByRecursion Q found.gone

    pub all_found : (attempts left : ℕ) (pending : List Pending) → AllByRecursion P pending → AllFound (Finds attempts left pending)
    all_found attempts left [] all = record { claimed = tt; gone = tt }
    all_found attempts left (p ∷ pending) all = elim (cases_Bool ((attempts == 0) || (left == 0))) [
      | inl t ↦ rw t (record { claimed = tt; gone = tt })
      | inr none ↦ rw none (elim (cases_Bool (has_entry p.id entries)) [
        | inl there ↦ rw there (elim (cases_Bool (nat_le idle (now - p.given_at))) [
          | inl long ↦
              let rest = all_found (attempts - 1) (left - 1) pending all.1 in
              rw long (record { claimed = (all.0, rest.claimed); gone = rest.gone })
          | inr short ↦ rw short (all_found (attempts - 1) left pending all.1)
        ])
        | inr none ↦
            let rest = all_found (attempts - 1) (left - 1) pending all.1 in
            rw none (record { claimed = rest.claimed; gone = (f p all.0, rest.gone) })
      ])
    ]

-- each is below those that follow
abbrev pub Rises : List Pending → Type 0
Rises [] = Unit {0}
Rises (p ∷ ps) = AllByRecursion (λ q. id_order p.id q.id ≡ Less) ps × Rises ps

pub rises_of : (ps : List Pending) → IsAscending (λ p. p.id) ps → Rises ps
rises_of [] up = tt
rises_of (p ∷ ps) up = (
  all_of (λ q. id_order p.id q.id ≡ Less) ps (λ k d lt. up 0 (suc k) d (omega arith) (omega (arith, lt))),
  rises_of ps (λ i j d lt bound. up (suc i) (suc j) d (omega (arith, lt)) (omega (arith, bound))),
)

pub rises_drop : (n : ℕ) (ps : List Pending) → Rises ps → Rises (drop n ps)
rises_drop zero ps up = up
rises_drop (suc n) [] up = tt
rises_drop (suc n) (p ∷ ps) up = rises_drop n ps up.1

pub rises_found : (entries : List Entry) (now idle attempts left : ℕ) (pending : List Pending) → Rises pending
    → Rises (found_in entries now idle attempts left pending).claimed
rises_found entries now idle attempts left [] up = tt
rises_found entries now idle attempts left (p ∷ pending) up = elim (cases_Bool ((attempts == 0) || (left == 0))) [
  | inl t ↦ rw t tt
  | inr f ↦ rw f (elim (cases_Bool (has_entry p.id entries)) [
    | inl there ↦ rw there (elim (cases_Bool (nat_le idle (now - p.given_at))) [
      | inl long ↦
          let rest = all_found entries now idle (λ q. id_order p.id q.id ≡ Less) (λ id. Unit {0}) (λ q is. tt) (attempts - 1) (left - 1) pending up.0 in
          rw long (rest.claimed, rises_found entries now idle (attempts - 1) (left - 1) pending up.1)
      | inr short ↦ rw short (rises_found entries now idle (attempts - 1) left pending up.1)
    ])
    | inr none ↦ rw none (rises_found entries now idle (attempts - 1) (left - 1) pending up.1)
  ])
]

-- ---- what is gone is taken out

pub without_all : (ids : List EntryId) (ps : List Pending)
    → pending_without_all ids ps ≡ filter (λ p. not (is_among ids p.id)) ps
without_all [] ps = sym (filter_all ps)
without_all (id ∷ ids) ps =
    without_all ids (pending_without id ps)
    ∙ sym (filter_neither (λ p. is_eq (id_order p.id id)) (λ p. is_among ids p.id) ps)

-- ---- the entries of ids

abbrev pub AllBelow : EntryId → List Entry → Type 0
AllBelow id es = AllByRecursion (λ e. id_order id e.id ≡ Less) es

abbrev pub EntriesRise : List Entry → Type 0
EntriesRise [] = Unit {0}
EntriesRise (e ∷ es) = AllBelow e.id es × EntriesRise es

pub entries_rise : (es : List Entry) → AreInOrder es → EntriesRise es
entries_rise [] up = tt
entries_rise (e ∷ es) up = (
  all_of (λ x. id_order e.id x.id ≡ Less) es (λ k d lt. up 0 (suc k) d (omega arith) (omega (arith, lt))),
  entries_rise es (λ i j d lt bound. up (suc i) (suc j) d (omega (arith, lt)) (omega (arith, bound))),
)

-- each id is below those that follow
abbrev pub IdsRise : List EntryId → Type 0
IdsRise [] = Unit {0}
IdsRise (id ∷ ids) = AllByRecursion (λ x. id_order id x ≡ Less) ids × IdsRise ids

none_below : (id : EntryId) (es : List Entry) → AllBelow id es → entry_with id es ≡ []
none_below id [] below = refl
none_below id (e ∷ es) below = rw (apart_down id e.id below.0) (none_below id es below.1)

pub not_among : (id : EntryId) (ids : List EntryId) → AllByRecursion (λ x. id_order id x ≡ Less) ids → is_among ids id ≡ false
not_among id [] below = refl
not_among id (x ∷ ids) below = rw (apart_up id x below.0) (not_among id ids below.1)

-- an id that is among others is above what they are all above
pub among_above : (a id : EntryId) (ids : List EntryId) → AllByRecursion (λ x. id_order a x ≡ Less) ids → is_among ids id ≡ true
    → id_order a id ≡ Less
among_above a id [] below among = absurd (true≢false (sym among))
among_above a id (x ∷ ids) below among = elim (cases_Bool (is_eq (id_order id x))) [
  | inl t ↦ rw (is_same id x t) below.0
  | inr f ↦ among_above a id ids below.1 (rw f at among)
]

module _ (id : EntryId) (ids : List EntryId) where
  abbrev With : Entry → Bool
  With e = is_among (id ∷ ids) e.id

  abbrev Among : Entry → Bool
  Among e = is_among ids e.id

  -- after the first one, the others are those with one of the ids
  behind_first : (es : List Entry) → AllBelow id es → filter With es ≡ filter Among es
  behind_first es below = filter_same With Among es
      (all_so (λ e. id_order id e.id ≡ Less) (λ e. With e ≡ Among e) (λ e less. rw (apart_down id e.id less) refl) es below)

  one_more : AllByRecursion (λ x. id_order id x ≡ Less) ids → (es : List Entry) → EntriesRise es
      → entry_with id es ++ filter Among es ≡ filter With es
  one_more below [] up = refl
  one_more below (e ∷ es) up = elim (cases_Bool (is_eq (id_order e.id id))) [
    | inl t ↦
        let is : e.id ≡ id = is_same e.id id t in
        let under : AllBelow id es = rw is at up.0 in
        let none : is_among ids e.id ≡ false = rw is (not_among id ids below) in
        rw (t, none) (ap (λ (xs : List Entry). e ∷ xs) (sym (behind_first es under)))
    | inr f ↦ elim (cases_Bool (is_among ids e.id)) [
      | inl there ↦
          let less : id_order id e.id ≡ Less = among_above id e.id ids below there in
          let under : AllBelow id es =
          all_so (λ x. id_order e.id x.id ≡ Less) (λ x. id_order id x.id ≡ Less) (λ x more. over id e.id x.id less more) es up.0 in
          let none : entry_with id es ≡ [] = none_below id es under in
          rw (f, there, none) (ap (λ (xs : List Entry). e ∷ xs) (sym (behind_first es under)))
      | inr out ↦ rw (f, out) (one_more below es up.1)
    ]
  ]

filter_none : (es : List Entry) → filter (λ e. false) es ≡ []
filter_none [] = refl
filter_none (e ∷ es) = filter_none es

-- the entries of ids that rise are those that have one of the ids
pub entries_are : (ids : List EntryId) (es : List Entry) → IdsRise ids → EntriesRise es
    → entries_with ids es ≡ filter (λ e. is_among ids e.id) es
entries_are [] es rise up = sym (filter_none es)
entries_are (id ∷ ids) es rise up =
    ap (λ (xs : List Entry). entry_with id es ++ xs) (entries_are ids es rise.1 up) ∙ one_more id ids rise.0 es up

pub ids_rise : (ps : List Pending) → Rises ps → IdsRise (ids_of ps)
ids_rise [] up = tt
ids_rise (p ∷ ps) up = (below p.id ps up.0, ids_rise ps up.1)
  where
    below : (id : EntryId) (qs : List Pending) → AllByRecursion (λ q. id_order id q.id ≡ Less) qs
        → AllByRecursion (λ x. id_order id x ≡ Less) (ids_of qs)
    below id [] all = tt
    below id (q ∷ qs) all = (all.0, below id qs all.1)
