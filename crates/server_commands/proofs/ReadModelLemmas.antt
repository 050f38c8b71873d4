-- The entries that are delivered are those that the model of a group delivers.
use Rattle.std.proofs.Math.Seq.{map-set_same}
use Rattle.std.proofs.Common.{◌≡◌, ◌+◌, ◌<◌, ◌≤◌, ℕ, zero, suc, Bool, true, false, List, [], ◌∷◌, ◌++◌, map, filter, length, get_or, set, take, drop, subst, inl, inr, refl, sym, ap, ◌∙◌, append_assoc, append-nil, arith}
use Rattle.std.proofs.lemmas.Bool.{cases_Bool, cases_lt}
use Rattle.std.proofs.lemmas.Bool.Decides.{nat_tests}
use Rattle.std.proofs.lemmas.List.{get_or-map, get_or-take, length-map, length-take, map-append, take-append-drop, take-map, drop-map}
use Rattle.std.proofs.lemmas.List.Elements.{filter-append}
use Rattle.std.proofs.lemmas.List.Edits.{insert_end}
use Rattle.std.specs.Prelude.{min, not, ◌==◌, if◌then◌else◌}
use Rattle.std.specs.List.{AllByRecursion, insert}
use Rattle.std.specs.Ordering.{is_lt}
use Rattle.std.specs.declared.cmp.Ordering.TheVariants.{Less, Greater}
use Rattle.model_server.specs.Group.Group as group_model
use Rattle.model_server.specs.Group.Group.{Name, behind, given, ids_of, is_below, listed, newly_pending, passed}
use Rattle.model_server.specs.Group.Worker as worker_model
use Rattle.model_server.specs.Group.World.{World, Read, happens, log_of}
use Rattle.server_store.proofs.LawLemmas.{pending_laws}
use Rattle.server_store.specs.Consumers.{IsSeen}
use Rattle.server_store.specs.EntryId.{id_text}
use Rattle.server_store.specs.Laws.{AreInOrder, IsInOrder}
use Rattle.server_store.specs.Order.{id_order, IsAscending, IsGapFor}
use Rattle.server_store.specs.Pending.{IsGiven, with_more}
use Rattle.server_store.specs.declared.entry_id.EntryId.{EntryId}
use Rattle.server_store.specs.declared.group.Consumer.{Consumer}
use Rattle.server_store.specs.declared.group.Group.{Group}
use Rattle.server_store.specs.declared.group.Pending.{Pending}
use Rattle.server_store.specs.declared.stream.Entry.{Entry}
use Rattle.server_commands.specs.Acknowledging.{names_of}
use Rattle.server_commands.specs.Delivering.{AreDelivered, HandsOut, IsDelivered, entries_behind}
use Rattle.server_commands.specs.Model.{AreNumbered, Fields, IsModelOf, IsUpTo, NoneIsAbove, as_entry, as_pending, capped, entries_until, left_of, name_of, numbers}
use Rattle.server_commands.specs.ModelReading.{HandingOutIsTheEvent, IsRead}

-- ---- lists

all_of : {A : Type 0} (P : A → Type 0) (xs : List A) → ((k : ℕ) (d : A) → k < length xs → P (get_or xs k d)) → AllByRecursion P xs
all_of P [] each = tt
all_of P (x ∷ xs) each = (each 0 x (omega arith), all_of P xs (λ k d lt. each (suc k) d (omega (arith, lt))))

each_of : {A : Type 0} (P : A → Type 0) (xs : List A) → AllByRecursion P xs → (k : ℕ) (d : A) → k < length xs → P (get_or xs k d)
each_of P [] all k d lt = absurd (omega (arith, lt))
each_of P (x ∷ xs) all zero d lt = all.0
each_of P (x ∷ xs) all (suc k) d lt = each_of P xs all.1 k d (omega (arith, lt))

pub all_so : {A : Type 0} (P Q : A → Type 0) → ((x : A) → P x → Q x) → (xs : List A) → AllByRecursion P xs → AllByRecursion Q xs
all_so P Q f [] all = tt
all_so P Q f (x ∷ xs) all = (f x all.0, all_so P Q f xs all.1)

all_both : {A : Type 0} (P : A → Type 0) (xs ys : List A) → AllByRecursion P xs → AllByRecursion P ys → AllByRecursion P (xs ++ ys)
all_both P [] ys all more = more
all_both P (x ∷ xs) ys all more = (all.0, all_both P xs ys all.1 more)

all_map_of : {A B : Type 0} (P : B → Type 0) (f : A → B) (xs : List A) → AllByRecursion (λ x. P (f x)) xs → AllByRecursion P (map f xs)
all_map_of P f [] all = tt
all_map_of P f (x ∷ xs) all = (all.0, all_map_of P f xs all.1)

all_filtered : {A : Type 0} (P : A → Type 0) (p : A → Bool) (xs : List A) → AllByRecursion P xs → AllByRecursion P (filter p xs)
all_filtered P p [] all = tt
all_filtered P p (x ∷ xs) all = elim (cases_Bool (p x)) [
  | inl t ↦ rw t (all.0, all_filtered P p xs all.1)
  | inr f ↦ rw f (all_filtered P p xs all.1)
]

pub filter_holds : {A : Type 0} (p : A → Bool) (xs : List A) → AllByRecursion (λ x. p x ≡ true) (filter p xs)
filter_holds p [] = tt
filter_holds p (x ∷ xs) = elim (cases_Bool (p x)) [
  | inl t ↦ rw t (t, filter_holds p xs)
  | inr f ↦ rw f (filter_holds p xs)
]

pub all_taken : {A : Type 0} (P : A → Type 0) (n : ℕ) (xs : List A) → AllByRecursion P xs → AllByRecursion P (take n xs)
all_taken P zero xs all = tt
all_taken P (suc n) [] all = tt
all_taken P (suc n) (x ∷ xs) all = (all.0, all_taken P n xs all.1)

map_same : {A B : Type 0} (f g : A → B) (xs : List A) → AllByRecursion (λ x. f x ≡ g x) xs → map f xs ≡ map g xs
map_same f g [] same = refl
map_same {A} {B} f g (x ∷ xs) same = rw same.0 (ap (λ (ys : List B). g x ∷ ys) (map_same f g xs same.1))

map_of_map : {A B C : Type 0} (f : A → B) (g : B → C) (xs : List A) → map g (map f xs) ≡ map (λ x. g (f x)) xs
map_of_map f g [] = refl
map_of_map {A} {B} {C} f g (x ∷ xs) = ap (λ (ys : List C). g (f x) ∷ ys) (map_of_map f g xs)

keeps_all : {A : Type 0} (p : A → Bool) (xs : List A) → AllByRecursion (λ x. p x ≡ true) xs → filter p xs ≡ xs
keeps_all p [] all = refl
keeps_all {A} p (x ∷ xs) all = rw all.0 (ap (λ (ys : List A). x ∷ ys) (keeps_all p xs all.1))

keeps_none : {A : Type 0} (p : A → Bool) (xs : List A) → AllByRecursion (λ x. p x ≡ false) xs → filter p xs ≡ []
keeps_none p [] all = refl
keeps_none p (x ∷ xs) all = rw all.0 (keeps_none p xs all.1)

-- ---- ids

abbrev pub Above : EntryId → EntryId → Type 0
Above last id = id_order last id ≡ Less

abbrev pub NotAbove : EntryId → EntryId → Type 0
NotAbove last id = is_lt (id_order last id) ≡ false

is_above : (a b : EntryId) → Above a b → is_lt (id_order a b) ≡ true
is_above a b less = ap is_lt less

pub above_so : (a b : EntryId) → is_lt (id_order a b) ≡ true → Above a b
above_so a b less = grind (arith, nat_tests, less)

over : (a b c : EntryId) → Above a b → Above b c → Above a c
over a b c less more = grind (arith, nat_tests, less, more)

not_over : (a b c : EntryId) → Above a b → NotAbove a c → NotAbove b c
not_over a b c less none = grind (arith, nat_tests, less, none)

not_itself : (a : EntryId) → NotAbove a a
not_itself a = grind (arith, nat_tests)

no_greater : (last p id : EntryId) → NotAbove last p → Above last id → id_order p id ≡ Greater → ⊥
no_greater last p id none less greater = grind (arith, nat_tests, none, less, greater)

below_of : (a b : EntryId) → NotAbove a b → is_below (numbers a) (numbers b) ≡ false
below_of a b none = grind (arith, nat_tests, none)

of_below : (a b : EntryId) → is_below (numbers a) (numbers b) ≡ false → NotAbove a b
of_below a b none = grind (arith, nat_tests, none)

-- ---- entries in order

first_below : (e : Entry) (es : List Entry) → AreInOrder (e ∷ es) → AllByRecursion (λ x. Above e.id x.id) es
first_below e es up = all_of (λ x. Above e.id x.id) es (λ k d lt. up 0 (suc k) d (omega arith) (omega (arith, lt)))

rest_ascends : (e : Entry) (es : List Entry) → AreInOrder (e ∷ es) → AreInOrder es
rest_ascends e es up i j d lt bound = up (suc i) (suc j) d (omega (arith, lt)) (omega (arith, bound))

-- the id of the last one
abbrev pub last_of : EntryId → List Entry → EntryId
last_of last [] = last
last_of last (e ∷ es) = last_of e.id es

abbrev pub AllAbove : EntryId → List Entry → Type 0
AllAbove last es = AllByRecursion (λ x. Above last x.id) es

-- all are above what the first is above
all_over : (last : EntryId) (e : Entry) (es : List Entry) → Above last e.id → AreInOrder (e ∷ es) → AllAbove last (e ∷ es)
all_over last e es here up =
    (here, all_so (λ x. Above e.id x.id) (λ x. Above last x.id) (λ x is. over last e.id x.id here is) es (first_below e es up))

-- what is not above the first is not above the last
kept_below : (last : EntryId) (n : ℕ) (es : List Entry) → AllAbove last es → AreInOrder es → (id : EntryId)
    → NotAbove last id → NotAbove (last_of last (take n es)) id
kept_below last zero es above up id none = none
kept_below last (suc n) [] above up id none = none
kept_below last (suc n) (e ∷ es) above up id none =
    kept_below e.id n es (first_below e es up) (rest_ascends e es up) id (not_over last e.id id above.0 none)

abbrev IsSplit : EntryId → ℕ → List Entry → List Entry → Type 0
IsSplit last n es new = (entries_behind (last_of last (take n new)) es ≡ drop n new)
    × (entries_until (last_of last (take n new)) es ≡ entries_until last es ++ take n new)

none_until : (last : EntryId) (es : List Entry) → AllAbove last es → entries_until last es ≡ []
none_until last es above = keeps_none (λ e. not (is_lt (id_order last e.id))) es
    (all_so (λ x. Above last x.id) (λ e. not (is_lt (id_order last e.id)) ≡ false) (λ x is. ap not (is_above last x.id is)) es above)

all_behind : (last : EntryId) (es : List Entry) → AllAbove last es → entries_behind last es ≡ es
all_behind last es above = keeps_all (λ e. is_lt (id_order last e.id)) es
    (all_so (λ x. Above last x.id) (λ e. is_lt (id_order last e.id) ≡ true) (λ x is. is_above last x.id is) es above)

split_above : (last : EntryId) (n : ℕ) (es : List Entry) → AllAbove last es → AreInOrder es
    → (entries_behind (last_of last (take n es)) es ≡ drop n es) × (entries_until (last_of last (take n es)) es ≡ take n es)
split_above last zero es above up = (all_behind last es above, none_until last es above)
split_above last (suc n) [] above up = (refl, refl)
split_above last (suc n) (e ∷ es) above up =
    let first = first_below e es up in
    let rest = rest_ascends e es up in
    let low : NotAbove (last_of e.id (take n es)) e.id = kept_below e.id n es first rest e.id (not_itself e.id) in
    let more = split_above e.id n es first rest in
    (rw low more.0, rw low (ap (λ (xs : List Entry). e ∷ xs) more.1))

below_last : (last : EntryId) (es : List Entry) → AllAbove last es → AreInOrder es → (id : EntryId)
    → NotAbove last id → NotAbove (last_of last es) id
below_last last [] above up id none = none
below_last last (e ∷ es) above up id none =
    below_last e.id es (first_below e es up) (rest_ascends e es up) id (not_over last e.id id above.0 none)

-- no entry is above the last one
none_above_last : (last : EntryId) (es : List Entry) → AllAbove last es → AreInOrder es
    → AllByRecursion (λ e. NotAbove (last_of last es) e.id) es
none_above_last last [] above up = tt
none_above_last last (e ∷ es) above up =
    let first = first_below e es up in
    let rest = rest_ascends e es up in
    (below_last e.id es first rest e.id (not_itself e.id), none_above_last e.id es first rest)

-- what holds of all of them holds of the last one
holds_of_last : (P : EntryId → Type 0) (last : EntryId) (es : List Entry) → P last → AllByRecursion (λ e. P e.id) es → P (last_of last es)
holds_of_last P last [] is all = is
holds_of_last P last (e ∷ es) is all = holds_of_last P e.id es all.0 all.1

-- the same for the entries after the last one
kept : (last : EntryId) (n : ℕ) (es : List Entry) → AreInOrder es → (id : EntryId) → NotAbove last id
    → NotAbove (last_of last (take n (entries_behind last es))) id
kept last zero [] up id none = none
kept last (suc n) [] up id none = none
kept last n (e ∷ es) up id none = elim (cases_Bool (is_lt (id_order last e.id))) [
  | inl t ↦
      let above : AllAbove last (e ∷ es) = all_over last e es (above_so last e.id t) up in
      rw (all_behind last (e ∷ es) above) (kept_below last n (e ∷ es) above up id none)
  | inr f ↦ rw f (kept last n es (rest_ascends e es up) id none)
]

-- the first entries after the last id are those up to the id of the last one that is taken
split : (last : EntryId) (n : ℕ) (es : List Entry) → AreInOrder es → IsSplit last n es (entries_behind last es)
split last zero [] up = (refl, refl)
split last (suc n) [] up = (refl, refl)
split last n (e ∷ es) up = elim (cases_Bool (is_lt (id_order last e.id))) [
  | inl t ↦
      let above : AllAbove last (e ∷ es) = all_over last e es (above_so last e.id t) up in
      let parts = split_above last n (e ∷ es) above up in
      let whole : entries_behind last (e ∷ es) ≡ e ∷ es = all_behind last (e ∷ es) above in
      let none : entries_until last (e ∷ es) ≡ [] = none_until last (e ∷ es) above in
      subst (IsSplit last n (e ∷ es)) (sym whole)
      (parts.0, parts.1 ∙ ap (λ (xs : List Entry). xs ++ take n (e ∷ es)) (sym none))
  | inr f ↦
      let more = split last n es (rest_ascends e es up) in
      let low : NotAbove (last_of last (take n (entries_behind last es))) e.id = kept last n es (rest_ascends e es up) e.id f in
      let same : entries_behind last (e ∷ es) ≡ entries_behind last es = rw f refl in
      let until : entries_until last (e ∷ es) ≡ e ∷ entries_until last es = rw f refl in
      subst (IsSplit last n (e ∷ es)) (sym same) (
        rw low more.0,
        rw low (ap (λ (xs : List Entry). e ∷ xs) more.1)
            ∙ ap (λ (xs : List Entry). xs ++ take n (entries_behind last es)) (sym until),
      )
]

pub behind_ascends : (last : EntryId) (es : List Entry) → AreInOrder es → AreInOrder (entries_behind last es)
behind_ascends last [] up = up
behind_ascends last (e ∷ es) up = elim (cases_Bool (is_lt (id_order last e.id))) [
  | inl t ↦ rw (all_behind last (e ∷ es) (all_over last e es (above_so last e.id t) up)) up
  | inr f ↦ rw f (behind_ascends last es (rest_ascends e es up))
]

pub taken_ascends : (n : ℕ) (es : List Entry) → AreInOrder es → AreInOrder (take n es)
taken_ascends n es up i j d lt bound =
    let long : length (take n es) ≡ min n (length es) = length-take n es in
    let few : j < n = omega (arith, bound, long) in
    let within : j < length es = omega (arith, bound, long) in
    rw (get_or-take n es i d (omega (arith, lt, few)), get_or-take n es j d few) (up i j d lt within)

-- ---- the model's lists

module _ (deleted : List worker_model.Id) where
  pub passed_on : (n : ℕ) (es : List (worker_model.Entry Fields)) → passed deleted n es ++ behind deleted n es ≡ es
  passed_on n [] = refl
  passed_on zero (e ∷ es) = refl
  passed_on (suc n) (e ∷ es) = elim (cases_Bool (listed deleted e.0)) [
    | inl t ↦ rw t (ap (λ (xs : List (worker_model.Entry Fields)). e ∷ xs) (passed_on (suc n) es))
    | inr f ↦ rw f (ap (λ (xs : List (worker_model.Entry Fields)). e ∷ xs) (passed_on n es))
  ]

  pub left_given : (n : ℕ) (es : List (worker_model.Entry Fields)) → given deleted n es ≡ take n (left_of deleted es)
  left_given zero [] = refl
  left_given (suc n) [] = refl
  left_given zero (e ∷ es) = refl
  left_given (suc n) (e ∷ es) = elim (cases_Bool (listed deleted e.0)) [
    | inl t ↦ rw t (left_given (suc n) es)
    | inr f ↦ rw f (ap (λ (xs : List (worker_model.Entry Fields)). e ∷ xs) (left_given n es))
  ]

  pub left_passed : (n : ℕ) (es : List (worker_model.Entry Fields)) → left_of deleted (passed deleted n es) ≡ take n (left_of deleted es)
  left_passed zero [] = refl
  left_passed (suc n) [] = refl
  left_passed zero (e ∷ es) = refl
  left_passed (suc n) (e ∷ es) = elim (cases_Bool (listed deleted e.0)) [
    | inl t ↦ rw t (left_passed (suc n) es)
    | inr f ↦ rw f (ap (λ (xs : List (worker_model.Entry Fields)). e ∷ xs) (left_passed n es))
  ]

  pub subtract_len : (n : ℕ) (es : List (worker_model.Entry Fields)) → left_of deleted (behind deleted n es) ≡ drop n (left_of deleted es)
  subtract_len zero [] = refl
  subtract_len (suc n) [] = refl
  subtract_len zero (e ∷ es) = refl
  subtract_len (suc n) (e ∷ es) = elim (cases_Bool (listed deleted e.0)) [
    | inl t ↦ rw t (subtract_len (suc n) es)
    | inr f ↦ rw f (subtract_len n es)
  ]

-- ---- what is delivered is pending at the end

abbrev pub pending_of : ℕ → ℕ → Entry → Pending
pending_of number now e = record { id = e.id; consumer = number; given_at = now; deliveries = 1 }

abbrev named_as : Consumer → ℕ × Name
named_as c = (c.number, c.name.items)

more_named : (number : ℕ) (c : Consumer) → named_as (with_more number c) ≡ named_as c
more_named number c = elim (cases_Bool (c.number == number)) [ inl t ↦ rw t refl | inr f ↦ rw f refl ]

more_names : (number : ℕ) (cs : List Consumer) → names_of (map (with_more number) cs) ≡ names_of cs
more_names number [] = refl
more_names number (c ∷ cs) =
    ap (λ (n : ℕ × Name). n ∷ names_of (map (with_more number) cs)) (more_named number c)
    ∙ ap (λ (ns : List (ℕ × Name)). named_as c ∷ ns) (more_names number cs)

-- the gap for what is above all is the end
at_end : (last : EntryId) (p : Pending) (ps : List Pending) (index : ℕ) → index ≤ length ps
    → AllByRecursion (λ q. NotAbove last q.id) ps → Above last p.id → IsGapFor (λ q. q.id) p.id ps index → index ≡ length ps
at_end last p ps index within low above gap = elim (cases_lt index (length ps)) [
  | inl lt ↦ absurd (no_greater last (get_or ps index p).id p.id (each_of (λ q. NotAbove last q.id) ps low index p lt) above
      (gap.1 index p (omega arith) lt))
  | inr ge ↦ omega (arith, within, ge)
]

record IsAtEnd (p : Pending) (old new : Group) : Type 0 where
  pub pending : new.pending.items ≡ old.pending.items ++ p ∷ []
  pub names : names_of new.consumers.items ≡ names_of old.consumers.items

given_at_end : (last : EntryId) (p : Pending) (old new : Group) → IsGiven p old new → IsInOrder old
    → AllByRecursion (λ q. NotAbove last q.id) old.pending.items → Above last p.id → IsAtEnd p old new
given_at_end last p old new (inl again) up low above =
    let there : (get_or old.pending.items again.index again.was).id ≡ p.id = ap (λ (q : Pending). q.id) again.stood ∙ again.named in
    absurd (not_both last p.id (subst (NotAbove last) there
    (each_of (λ q. NotAbove last q.id) old.pending.items low again.index again.was again.within)) above)
  where
    not_both : (a b : EntryId) → NotAbove a b → Above a b → ⊥
    not_both a b none less = grind (arith, nat_tests, none, less)
given_at_end last p old new (inr more) up low above =
    let end : more.index ≡ length old.pending.items =
    at_end last p old.pending.items more.index more.within low above (more.place up) in
    record {
      pending = more.is ∙ ap (λ (i : ℕ). insert old.pending.items i p) end ∙ insert_end old.pending.items p;
      names = ap names_of more.counts ∙ more_names p.consumer old.consumers.items;
    }

-- these entries are pending at the end, and the last of them is the last one delivered
pub record AreAtEnd (number now : ℕ) (es : List Entry) (old new : Group) : Type 0 where
  pub pending : new.pending.items ≡ old.pending.items ++ map (pending_of number now) es
  pub names : names_of new.consumers.items ≡ names_of old.consumers.items
  pub last_id : new.last_id ≡ last_of old.last_id es
  pub next : new.next_number ≡ old.next_number
  pub order : IsInOrder new

pub delivered_at_end : (number now : ℕ) (es : List Entry) (old new : Group) → AreDelivered number now false es old new
    → AreInOrder es → AllAbove old.last_id es → IsInOrder old
    → AllByRecursion (λ q. NotAbove old.last_id q.id) old.pending.items → AreAtEnd number now es old new
delivered_at_end number now [] old new is ascend above up low = record {
  pending = ap (λ (g : Group). g.pending.items) is ∙ sym (append-nil old.pending.items);
  names = ap (λ (g : Group). names_of g.consumers.items) is;
  last_id = ap (λ (g : Group). g.last_id) is;
  next = ap (λ (g : Group). g.next_number) is;
  order = subst IsInOrder (sym is) up;
}
delivered_at_end number now (e ∷ es) old new (between, first, rest) ascend above up low =
    let p : Pending = pending_of number now e in
    let given : IsGiven p old between = first.pending in
    let end = given_at_end old.last_id p old between given up low above.0 in
    let still : IsInOrder between = pending_laws.given p old between given up in
    let at : between.last_id ≡ e.id = first.last_id in
    let lower : AllByRecursion (λ q. NotAbove between.last_id q.id) between.pending.items =
    rw (at, end.pending) (all_both (λ q. NotAbove e.id q.id) old.pending.items (p ∷ [])
    (all_so (λ q. NotAbove old.last_id q.id) (λ q. NotAbove e.id q.id) (λ q is. not_over old.last_id e.id q.id above.0 is) old.pending.items low)
    (not_itself e.id, tt)) in
    let more = delivered_at_end number now es between new rest (rest_ascends e es ascend)
    (subst (λ (id : EntryId). AllAbove id es) (sym at) (first_below e es ascend)) still lower in
    record {
      pending = more.pending ∙ ap (λ (ps : List Pending). ps ++ map (pending_of number now) es) end.pending
          ∙ append_assoc old.pending.items (p ∷ []) (map (pending_of number now) es);
      names = more.names ∙ end.names;
      last_id = more.last_id ∙ ap (λ (id : EntryId). last_of id es) at;
      next = more.next ∙ ap (λ (g : Group). g.next_number) first.others;
      order = more.order;
    }

-- ---- the consumer is seen

other_number : (m number : ℕ) (name : Name) (cs : List (ℕ × Name)) → m < number → name_of m ((number, name) ∷ cs) ≡ name_of m cs
other_number m number name cs less = elim (cases_Bool (number == m)) [
  | inl t ↦ absurd (grind (arith, nat_tests, t, less))
  | inr f ↦ rw f refl
]

itself : (number : ℕ) (name : Name) (cs : List (ℕ × Name)) → name_of number ((number, name) ∷ cs) ≡ name
itself number name cs = elim (cases_Bool (number == number)) [
  | inl t ↦ rw t refl
  | inr f ↦ absurd (grind (arith, nat_tests, f))
]

-- a name that comes in with a number above the others is found by it, and the others by theirs
found_others : (m number : ℕ) (name : Name) (cs : List (ℕ × Name)) (i : ℕ) → m < number
    → name_of m (insert cs i (number, name)) ≡ name_of m cs
found_others m number name cs zero less = other_number m number name cs less
found_others m number name [] (suc i) less = other_number m number name [] less
found_others m number name (c ∷ cs) (suc i) less = elim (cases_Bool (c.0 == m)) [
  | inl t ↦ rw t refl
  | inr f ↦ rw f (found_others m number name cs i less)
]

found_newcomer : (number : ℕ) (name : Name) (cs : List (ℕ × Name)) (i : ℕ) → AllByRecursion (λ c. c.0 < number) cs
    → name_of number (insert cs i (number, name)) ≡ name
found_newcomer number name cs zero below = itself number name cs
found_newcomer number name [] (suc i) below = itself number name []
found_newcomer number name (c ∷ cs) (suc i) below = elim (cases_Bool (c.0 == number)) [
  | inl t ↦ absurd (grind (arith, nat_tests, t, below.0))
  | inr f ↦ rw f (found_newcomer number name cs i below.1)
]

map_insert : {A B : Type 0} (f : A → B) (xs : List A) (i : ℕ) (y : A) → map f (insert xs i y) ≡ insert (map f xs) i (f y)
map_insert f xs zero y = refl
map_insert f [] (suc i) y = refl
map_insert {A} {B} f (x ∷ xs) (suc i) y = ap (λ (ys : List B). f x ∷ ys) (map_insert f xs i y)

all_inserted : {A : Type 0} (P : A → Type 0) (xs : List A) (i : ℕ) (y : A) → AllByRecursion P xs → P y → AllByRecursion P (insert xs i y)
all_inserted P xs zero y all is = (is, all)
all_inserted P [] (suc i) y all is = (is, tt)
all_inserted P (x ∷ xs) (suc i) y all is = (all.0, all_inserted P xs i y all.1 is)

-- each is found as before
found_all : (name : Name) (number : ℕ) (cs all : List (ℕ × Name)) (i : ℕ) → AllByRecursion (λ c. c.0 < number) cs
    → AllByRecursion (λ c. name_of c.0 all ≡ c.1) cs
    → AllByRecursion (λ c. name_of c.0 (insert all i (number, name)) ≡ c.1) cs
found_all name number [] all i below found = tt
found_all name number (c ∷ cs) all i below found = (
  found_others c.0 number name all i below.0 ∙ found.0,
  found_all name number cs all i below.1 found.1,
)

-- the consumer is found by its number, as the others are
record IsKnown (name : Name) (number : ℕ) (old new : Group) : Type 0 where
  pub named : name_of number (names_of new.consumers.items) ≡ name
  pub below : number < new.next_number
  pub others : (m : ℕ) → m < old.next_number → name_of m (names_of new.consumers.items) ≡ name_of m (names_of old.consumers.items)
  pub numbered : AreNumbered new

seen_known : (name : Name) (now number : ℕ) (old new : Group) → IsSeen name now number old new
    → new.pending.items ≡ old.pending.items → AreNumbered old → old.next_number < 18446744073709551615 → IsKnown name number old new
seen_known name now number old new (inl again) stay numbers room =
    let pending : new.pending.items ≡ old.pending.items = stay in
    let stood : get_or old.consumers.items again.index again.was ≡ again.was = again.there.stood in
    let names : names_of new.consumers.items ≡ names_of old.consumers.items = ap names_of again.consumers
    ∙ map-set_same named_as old.consumers.items again.index (record again.was { seen_at = now }) again.was (ap named_as (sym stood)) in
    let place : again.index < length (names_of old.consumers.items) = omega (arith, again.there.within, length-map old.consumers.items named_as) in
    let entry : get_or (names_of old.consumers.items) again.index (named_as again.was) ≡ named_as again.was =
    get_or-map named_as old.consumers.items again.index again.was (named_as again.was) again.there.within ∙ ap named_as stood in
    let is : name_of again.was.number (names_of old.consumers.items) ≡ again.was.name.items =
    subst (λ (c : ℕ × Name). name_of c.0 (names_of old.consumers.items) ≡ c.1) entry
    (each_of (λ c. name_of c.0 (names_of old.consumers.items) ≡ c.1) (names_of old.consumers.items) numbers.found again.index (named_as again.was) place) in
    let less : again.was.number < old.next_number = subst (λ (c : ℕ × Name). c.0 < old.next_number) entry
    (each_of (λ c. c.0 < old.next_number) (names_of old.consumers.items) numbers.below again.index (named_as again.was) place) in
    record {
      named = rw (names, again.numbered) (is ∙ again.there.named);
      below = rw (again.numbered, again.next) less;
      others = λ m lt. ap (name_of m) names;
      numbered = record {
        found = rw names numbers.found;
        below = rw (names, again.next) numbers.below;
        pending = rw (pending, again.next) numbers.pending;
      };
    }
seen_known name now number old new (inr made) stay numbers room =
    let pending : new.pending.items ≡ old.pending.items = stay in
    let is : number ≡ old.next_number = made.numbered.0 in
    let shown : named_as made.is ≡ (number, name) = rw (made.numbered.1, made.named) refl in
    let names : names_of new.consumers.items ≡ insert (names_of old.consumers.items) made.index (number, name) =
    ap names_of made.consumers ∙ map_insert named_as old.consumers.items made.index made.is
    ∙ ap (insert (names_of old.consumers.items) made.index) shown in
    let next : new.next_number ≡ number + 1 = omega (arith, made.next, is, room) in
    let low : AllByRecursion (λ c. c.0 < number) (names_of old.consumers.items) = rw is numbers.below in
    let named : name_of number (names_of new.consumers.items) ≡ name =
    rw names (found_newcomer number name (names_of old.consumers.items) made.index low) in
    let others : (m : ℕ) → m < old.next_number → name_of m (names_of new.consumers.items) ≡ name_of m (names_of old.consumers.items) =
    λ m lt. rw names (found_others m number name (names_of old.consumers.items) made.index (rw is lt)) in
    record {
      named = named;
      below = omega (arith, next);
      others = others;
      numbered = record {
        found = rw names (all_inserted (λ c. name_of c.0 (insert (names_of old.consumers.items) made.index (number, name)) ≡ c.1)
            (names_of old.consumers.items) made.index (number, name)
            (found_all name number (names_of old.consumers.items) (names_of old.consumers.items) made.index low numbers.found)
            (found_newcomer number name (names_of old.consumers.items) made.index low));
        below = rw (names, next) (all_inserted (λ c. c.0 < number + 1) (names_of old.consumers.items) made.index (number, name)
            (all_so (λ c. c.0 < number) (λ c. c.0 < number + 1) (λ c lt. omega (arith, lt)) (names_of old.consumers.items) low) (omega arith));
        pending = rw (pending, next) (all_so (λ p. p.consumer < old.next_number) (λ p. p.consumer < number + 1)
            (λ p lt. omega (arith, lt, is)) old.pending.items numbers.pending);
      };
    }

-- ---- the group after

newly : (names : List (ℕ × Name)) (number now : ℕ) (consumer : Name) (es : List Entry) → name_of number names ≡ consumer
    → map (as_pending names) (map (pending_of number now) es) ≡ map capped (newly_pending consumer (map as_entry es))
newly names number now consumer [] named = refl
newly names number now consumer (e ∷ es) named =
    let first : as_pending names (pending_of number now e) ≡ record { id = id_text e.id; consumer = consumer; count = 1 } = rw named refl in
    rw first (ap (λ (ps : List group_model.Pending). record { id = id_text e.id; consumer = consumer; count = 1 } ∷ ps)
    (newly names number now consumer es named))

all_alike : {A : Type 0} (P : Type 0) (xs : List A) → P → AllByRecursion (λ x. P) xs
all_alike P [] is = tt
all_alike P (x ∷ xs) is = (is, all_alike P xs is)

all_two : {A : Type 0} (P Q R : A → Type 0) → ((x : A) → P x → Q x → R x) → (xs : List A) → AllByRecursion P xs
    → AllByRecursion Q xs → AllByRecursion R xs
all_two P Q R f [] all more = tt
all_two P Q R f (x ∷ xs) all more = (f x all.0 more.0, all_two P Q R f xs all.1 more.1)

module _ (consumer : Name) (now most : ℕ) (entries : List Entry) (last_id : EntryId) (old new : Group) (w : World Fields)
    (how : HandsOut consumer now most false entries old new) (model : IsModelOf entries last_id old w) (numbers : AreNumbered old)
    (room : old.next_number < 18446744073709551615) where
  abbrev news : List Entry
  news = take most (entries_behind old.last_id entries)

  known : IsKnown consumer how.number old how.between
  known = seen_known consumer now how.number old how.between how.seen how.stays numbers room

  last_same : how.between.last_id ≡ old.last_id
  last_same = ap (λ (g : Group). g.last_id) how.others

  pending_same : how.between.pending.items ≡ old.pending.items
  pending_same = how.stays

  behind_above : AllAbove old.last_id (entries_behind old.last_id entries)
  behind_above = all_so (λ e. is_lt (id_order old.last_id e.id) ≡ true) (λ e. Above old.last_id e.id) (λ e is. above_so old.last_id e.id is)
      (entries_behind old.last_id entries) (filter_holds (λ e. is_lt (id_order old.last_id e.id)) entries)

  pending_low : AllByRecursion (λ q. NotAbove old.last_id q.id) old.pending.items
  pending_low = all_so (λ p. IsUpTo old.last_id p.id) (λ q. NotAbove old.last_id q.id) (λ p is. of_below old.last_id p.id is.1)
      old.pending.items model.delivered

  delivered : AreAtEnd how.number now news how.between new
  delivered = delivered_at_end how.number now news how.between new (how.delivered model.entries_ascend)
      (taken_ascends most (entries_behind old.last_id entries) (behind_ascends old.last_id entries model.entries_ascend))
      (rw last_same (all_taken (λ e. Above old.last_id e.id) most (entries_behind old.last_id entries) behind_above))
      (subst (λ (ps : List Pending). IsAscending (λ p. p.id) ps) (sym pending_same) model.pending_ascends)
      (rw (last_same, pending_same) pending_low)

  news_ascend : AreInOrder news
  news_ascend = taken_ascends most (entries_behind old.last_id entries) (behind_ascends old.last_id entries model.entries_ascend)

  news_above : AllAbove old.last_id news
  news_above = all_taken (λ e. Above old.last_id e.id) most (entries_behind old.last_id entries) behind_above

  pieces : IsSplit old.last_id most entries (entries_behind old.last_id entries)
  pieces = split old.last_id most entries model.entries_ascend

  last_after : new.last_id ≡ last_of old.last_id news
  last_after = delivered.last_id ∙ ap (λ (id : EntryId). last_of id news) last_same

  pending_after : new.pending.items ≡ old.pending.items ++ map (pending_of how.number now) news
  pending_after = delivered.pending ∙ ap (λ (ps : List Pending). ps ++ map (pending_of how.number now) news) pending_same

  given_same : map as_entry news ≡ given w.deleted most w.fresh
  given_same = sym (take-map as_entry most (entries_behind old.last_id entries)) ∙ ap (take most) model.fresh
      ∙ sym (left_given w.deleted most w.fresh)

  passed_same : map as_entry news ≡ left_of w.deleted (passed w.deleted most w.fresh)
  passed_same = given_same ∙ left_given w.deleted most w.fresh ∙ sym (left_passed w.deleted most w.fresh)

  seen_after : map as_entry (entries_until new.last_id entries) ≡ left_of w.deleted (w.seen ++ passed w.deleted most w.fresh)
  seen_after = ap (λ (id : EntryId). map as_entry (entries_until id entries)) last_after ∙ ap (map as_entry) pieces.1
      ∙ map-append as_entry (entries_until old.last_id entries) news
      ∙ ap (λ (es : List (worker_model.Entry Fields)). es ++ map as_entry news) model.seen
      ∙ ap (λ (es : List (worker_model.Entry Fields)). left_of w.deleted w.seen ++ es) passed_same
      ∙ sym (filter-append (λ e. not (listed w.deleted e.0)) w.seen (passed w.deleted most w.fresh))

  fresh_after : map as_entry (entries_behind new.last_id entries) ≡ left_of w.deleted (behind w.deleted most w.fresh)
  fresh_after = ap (λ (id : EntryId). map as_entry (entries_behind id entries)) last_after ∙ ap (map as_entry) pieces.0
      ∙ sym (drop-map as_entry most (entries_behind old.last_id entries)) ∙ ap (drop most) model.fresh
      ∙ sym (subtract_len w.deleted most w.fresh)

  abbrev names : List (ℕ × Name)
  names = names_of new.consumers.items

  old_pending : map (as_pending names) old.pending.items ≡ map capped w.pending
  old_pending = map_same (as_pending names) (as_pending (names_of old.consumers.items)) old.pending.items
      (all_so (λ p. p.consumer < old.next_number) (λ p. as_pending names p ≡ as_pending (names_of old.consumers.items) p)
      (λ p lt. ap (λ (name : Name). let q : group_model.Pending = record { id = id_text p.id; consumer = name; count = p.deliveries } in q)
      (ap (name_of p.consumer) delivered.names ∙ known.others p.consumer lt)) old.pending.items numbers.pending)
      ∙ model.pending

  new_pending : map (as_pending names) (map (pending_of how.number now) news) ≡ map capped (newly_pending consumer (given w.deleted most w.fresh))
  new_pending = newly names how.number now consumer news (ap (name_of how.number) delivered.names ∙ known.named)
      ∙ ap (λ (es : List (worker_model.Entry Fields)). map capped (newly_pending consumer es)) given_same

  all_pending : map (as_pending names) new.pending.items ≡ map capped (w.pending ++ newly_pending consumer (given w.deleted most w.fresh))
  all_pending = ap (map (as_pending names)) pending_after
      ∙ map-append (as_pending names) old.pending.items (map (pending_of how.number now) news)
      ∙ ap (λ (ps : List group_model.Pending). ps ++ map (as_pending names) (map (pending_of how.number now) news)) old_pending
      ∙ ap (λ (ps : List group_model.Pending). map capped w.pending ++ ps) new_pending
      ∙ sym (map-append capped w.pending (newly_pending consumer (given w.deleted most w.fresh)))

  news_up : AllByRecursion (λ e. IsUpTo last_id e.id) news
  news_up = all_taken (λ e. IsUpTo last_id e.id) most (entries_behind old.last_id entries)
      (all_filtered (λ e. IsUpTo last_id e.id) (λ e. is_lt (id_order old.last_id e.id)) entries model.added)

  delivered_after : AllByRecursion (λ p. IsUpTo (last_of old.last_id news) p.id) (old.pending.items ++ map (pending_of how.number now) news)
  delivered_after = all_both (λ p. IsUpTo (last_of old.last_id news) p.id) old.pending.items (map (pending_of how.number now) news)
      (all_so (λ p. IsUpTo old.last_id p.id) (λ p. IsUpTo (last_of old.last_id news) p.id)
      (λ p is. (
        is.0,
        below_of (last_of old.last_id news) p.id
            (below_last old.last_id news news_above news_ascend p.id (of_below old.last_id p.id is.1)),
      )) old.pending.items model.delivered)
      (all_map_of (λ p. IsUpTo (last_of old.last_id news) p.id) (pending_of how.number now) news
      (all_two (λ e. IsUpTo last_id e.id) (λ e. NotAbove (last_of old.last_id news) e.id) (λ e. IsUpTo (last_of old.last_id news) e.id)
      (λ e is none. (is.0, below_of (last_of old.last_id news) e.id none)) news news_up
      (none_above_last old.last_id news news_above news_ascend)))

  log_same : (w.seen ++ passed w.deleted most w.fresh) ++ behind w.deleted most w.fresh ≡ w.seen ++ w.fresh
  log_same = append_assoc w.seen (passed w.deleted most w.fresh) (behind w.deleted most w.fresh)
      ∙ ap (λ (es : List (worker_model.Entry Fields)). w.seen ++ es) (passed_on w.deleted most w.fresh)

  none_after : NoneIsAbove (happens w (Read consumer most))
  none_after n above fit = (
    subst (λ (es : List (worker_model.Entry Fields)). listed (ids_of es) (group_model.id_text n) ≡ false) (sym log_same)
        (model.none_above n above fit).0,
    (model.none_above n above fit).1,
  )

  numbered : AreNumbered new
  numbered = record {
    found = rw delivered.names known.numbered.found;
    below = rw (delivered.names, delivered.next) known.numbered.below;
    pending = rw (delivered.pending, delivered.next) (all_both (λ p. p.consumer < how.between.next_number) how.between.pending.items
        (map (pending_of how.number now) news) known.numbered.pending
        (all_map_of (λ p. p.consumer < how.between.next_number) (pending_of how.number now) news
        (all_alike (how.number < how.between.next_number) news known.below)));
  }

  read_so : IsRead consumer most entries last_id old new w
  read_so = record {
    model = record {
      seen = seen_after;
      fresh = fresh_after;
      last = model.last;
      pending = all_pending;
      entries_ascend = model.entries_ascend;
      pending_ascends = delivered.order;
      added = model.added;
      delivered = rw (pending_after, last_after) delivered_after;
      reached = rw last_after (holds_of_last (IsUpTo last_id) old.last_id news model.reached news_up);
      none_above = none_after;
    };
    numbered = numbered;
    given = given_same;
  }

pub handing_out_is_the_event : HandingOutIsTheEvent
handing_out_is_the_event consumer now most entries last_id old new w how model numbers room =
    read_so consumer now most entries last_id old new w how model numbers room
