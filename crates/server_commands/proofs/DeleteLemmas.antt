-- What XDEL does is that entries are deleted.
use Rattle.std.proofs.Common.{◌≡◌, ◌<◌, ℕ, zero, suc, Bool, true, false, List, [], ◌∷◌, ◌++◌, map, filter, length, get_or, drop, subst, inl, inr, refl, sym, ap, ◌∙◌, arith}
use mathlib.Core.Bool.{true≢false}
use Rattle.std.proofs.lemmas.Bool.{cases_Bool}
use Rattle.std.proofs.lemmas.List.{get_or-map, length-map}
use Rattle.std.proofs.lemmas.Slice.Eq.{bytes_eq-Decides}
use Rattle.std.specs.Prelude.{not, if◌then◌else◌}
use Rattle.std.specs.List.{AllByRecursion}
use Rattle.std.specs.Ordering.{is_eq, is_lt}
use Rattle.std.specs.Str.{bytes_eq}
use Rattle.std.specs.declared.cmp.Ordering.TheVariants.{Less}
use Rattle.model_server.specs.Group.Group as group_model
use Rattle.model_server.specs.Group.Group.{Numbers, fits, ids_of, is_below, listed}
use Rattle.model_server.specs.Group.Worker as worker_model
use Rattle.model_server.specs.Group.World.{World, Delete, deleted_from, log_of, run}
use Rattle.server_store.specs.EntryId.{id_text}
use Rattle.server_store.specs.Laws.{AreInOrder as EntriesAscend}
use Rattle.server_store.specs.Order.{id_order}
use Rattle.server_store.specs.Stream.{Seen, seen_stream}
use Rattle.server_store.specs.declared.entry_id.EntryId.{EntryId}
use Rattle.server_store.specs.declared.group.Group.{Group}
use Rattle.server_store.specs.declared.stream.Entry.{Entry}
use Rattle.server_store.specs.declared.stream.Stream.{Stream}
use Rattle.server_commands.specs.Changed.{IsChangedAt}
use Rattle.server_commands.specs.Deleting.{AreDeleted, entries_without, entries_without_all}
use Rattle.server_commands.specs.Delivering.{entries_behind}
use Rattle.server_commands.specs.IdWords.{AreFit, Fits, words_of_ids}
use Rattle.server_commands.specs.Model.{Fields, IsModelIn, IsModelOf, IsUpTo, XdelIsTheEvents, as_entry, entries_until, left_of}
use Rattle.server_commands.specs.Places.{AreInOrder, IsMissing}
use Rattle.server_commands.proofs.ModelLemmas.{all_filter, all_map, apart, changed_model, changed_was, filter_all, filter_map, filter_neither, filter_same, keys_shown, read_so}

-- ---- filters

passes : {A : Type 0} (p : A → Bool) (x : A) (xs : List A) → p x ≡ true → filter p (x ∷ xs) ≡ x ∷ filter p xs
passes p x xs is = rw is refl

fails : {A : Type 0} (p : A → Bool) (x : A) (xs : List A) → p x ≡ false → filter p (x ∷ xs) ≡ filter p xs
fails p x xs is = rw is refl

filter_swap : {A : Type 0} (p q : A → Bool) (xs : List A) → filter p (filter q xs) ≡ filter q (filter p xs)
filter_swap p q [] = refl
filter_swap {A} p q (x ∷ xs) = elim (cases_Bool (p x)) [
  | inl pt ↦ elim (cases_Bool (q x)) [
    | inl qt ↦
        ap (filter p) (passes q x xs qt) ∙ passes p x (filter q xs) pt ∙ ap (λ (ys : List A). x ∷ ys) (filter_swap p q xs)
        ∙ sym (passes q x (filter p xs) qt) ∙ ap (filter q) (sym (passes p x xs pt))
    | inr qf ↦
        ap (filter p) (fails q x xs qf) ∙ filter_swap p q xs ∙ sym (fails q x (filter p xs) qf)
        ∙ ap (filter q) (sym (passes p x xs pt))
  ]
  | inr pf ↦ elim (cases_Bool (q x)) [
    | inl qt ↦
        ap (filter p) (passes q x xs qt) ∙ fails p x (filter q xs) pf ∙ filter_swap p q xs
        ∙ ap (filter q) (sym (fails p x xs pf))
    | inr qf ↦ ap (filter p) (fails q x xs qf) ∙ filter_swap p q xs ∙ ap (filter q) (sym (fails p x xs pf))
  ]
]

-- ---- entries in order

abbrev Below : EntryId → Entry → Type 0
Below id e = id_order id e.id ≡ Less

-- each is before those that follow
abbrev Rises : List Entry → Type 0
Rises [] = Unit {0}
Rises (e ∷ es) = AllByRecursion (Below e.id) es × Rises es

all_at : (id : EntryId) (es : List Entry) → ((k : ℕ) (d : Entry) → k < length es → Below id (get_or es k d))
    → AllByRecursion (Below id) es
all_at id [] at = tt
all_at id (e ∷ es) at = (at 0 e (omega arith), all_at id es (λ k d lt. at (suc k) d (omega (arith, lt))))

at_all : (id : EntryId) (es : List Entry) → AllByRecursion (Below id) es → (k : ℕ) (d : Entry) → k < length es
    → Below id (get_or es k d)
at_all id [] all k d lt = absurd (omega (arith, lt))
at_all id (e ∷ es) all zero d lt = all.0
at_all id (e ∷ es) all (suc k) d lt = at_all id es all.1 k d (omega (arith, lt))

to_rises : (es : List Entry) → EntriesAscend es → Rises es
to_rises [] up = tt
to_rises (e ∷ es) up = (
  all_at e.id es (λ k d lt. up 0 (suc k) d (omega arith) (omega (arith, lt))),
  to_rises es (λ i j d lt within. up (suc i) (suc j) d (omega (arith, lt)) (omega (arith, within))),
)

from_rises : (es : List Entry) → Rises es → EntriesAscend es
from_rises [] up i j d lt within = absurd (omega (arith, within))
from_rises (e ∷ es) up i zero d lt within = absurd (omega (arith, lt))
from_rises (e ∷ es) up zero (suc j) d lt within = at_all e.id es up.0 j d (omega (arith, within))
from_rises (e ∷ es) up (suc i) (suc j) d lt within = from_rises es up.1 i j d (omega (arith, lt)) (omega (arith, within))

rises_filter : (p : Entry → Bool) (es : List Entry) → Rises es → Rises (filter p es)
rises_filter p [] up = tt
rises_filter p (e ∷ es) up = elim (cases_Bool (p e)) [
  | inl t ↦ rw t (all_filter (Below e.id) p es up.0, rises_filter p es up.1)
  | inr f ↦ rw f (rises_filter p es up.1)
]

pub ascend_filter : (p : Entry → Bool) (es : List Entry) → EntriesAscend es → EntriesAscend (filter p es)
ascend_filter p es up = from_rises (filter p es) (rises_filter p es (to_rises es up))

-- ---- one entry is deleted

abbrev ModelEntry : Type 0
ModelEntry = worker_model.Entry Fields

abbrev is_other : List ℕ → ModelEntry → Bool
is_other t e = not (bytes_eq t e.0)

same_way : (a b : List ℕ) → bytes_eq a b ≡ bytes_eq b a
same_way a b = elim (cases_Bool (bytes_eq a b)) [
  | inl t ↦ t ∙ sym ((bytes_eq-Decides b a).1 (sym ((bytes_eq-Decides a b).0 t)))
  | inr f ↦ elim (cases_Bool (bytes_eq b a)) [
    | inl t ↦ absurd (true≢false (sym ((bytes_eq-Decides a b).1 (sym ((bytes_eq-Decides b a).0 t))) ∙ f))
    | inr g ↦ f ∙ sym g
  ]
]

without_entry : (id : EntryId) (last : EntryId) (es : List Entry) → Fits id → AllByRecursion (λ e. IsUpTo last e.id) es
    → map as_entry (entries_without id es) ≡ filter (is_other (id_text id)) (map as_entry es)
without_entry id last es fit all =
    ap (map as_entry) (filter_same (λ e. not (is_eq (id_order e.id id))) (λ e. is_other (id_text id) (as_entry e)) es
    (all_map (λ e. IsUpTo last e.id) (λ e. not (is_eq (id_order e.id id)) ≡ is_other (id_text id) (as_entry e))
    (λ e is. ap not (sym (apart id e.id fit is.0))) es all))
    ∙ sym (filter_map as_entry (is_other (id_text id)) es)

left_more : (t : List ℕ) (deleted : List (List ℕ)) (es : List ModelEntry)
    → filter (is_other t) (left_of deleted es) ≡ left_of (t ∷ deleted) es
left_more t deleted es =
    filter_swap (is_other t) (λ e. not (listed deleted e.0)) es
    ∙ sym (filter_neither (λ e. bytes_eq t e.0) (λ e. listed deleted e.0) es)

all_other : (t : List ℕ) (es : List ModelEntry) → listed (ids_of es) t ≡ false → AllByRecursion (λ e. is_other t e ≡ true) es
all_other t [] none = tt
all_other t (e ∷ es) none = elim (cases_Bool (bytes_eq e.0 t)) [
  | inl y ↦ absurd (true≢false (rw y at none))
  | inr f ↦ (ap not (same_way t e.0 ∙ f), all_other t es (rw f at none))
]

all_left : {A : Type 0} (P : A → Type 0) (xs ys : List A) → AllByRecursion P (xs ++ ys) → AllByRecursion P xs
all_left P [] ys all = tt
all_left P (x ∷ xs) ys all = (all.0, all_left P xs ys all.1)

all_right : {A : Type 0} (P : A → Type 0) (xs ys : List A) → AllByRecursion P (xs ++ ys) → AllByRecursion P ys
all_right P [] ys all = all
all_right P (x ∷ xs) ys all = all_right P xs ys all.1

left_same : (t : List ℕ) (deleted : List (List ℕ)) (es : List ModelEntry) → AllByRecursion (λ e. is_other t e ≡ true) es
    → filter (is_other t) (left_of deleted es) ≡ left_of deleted es
left_same t deleted es all =
    filter_same (is_other t) (λ e. true) (left_of deleted es)
    (all_filter (λ e. is_other t e ≡ true) (λ e. not (listed deleted e.0)) es all)
    ∙ filter_all (left_of deleted es)

module _ (entries : List Entry) (last_id : EntryId) (group : Group) (w : World Fields) (id : EntryId) (fit : Fits id)
    (model : IsModelOf entries last_id group w) where
  abbrev text : List ℕ
  text = id_text id

  until : map as_entry (entries_until group.last_id (entries_without id entries))
      ≡ filter (is_other text) (left_of w.deleted w.seen)
  until =
      ap (map as_entry) (filter_swap (λ e. not (is_lt (id_order group.last_id e.id))) (λ e. not (is_eq (id_order e.id id))) entries)
      ∙ without_entry id last_id (entries_until group.last_id entries) fit
      (all_filter (λ e. IsUpTo last_id e.id) (λ e. not (is_lt (id_order group.last_id e.id))) entries model.added)
      ∙ ap (filter (is_other text)) model.seen

  behind : map as_entry (entries_behind group.last_id (entries_without id entries))
      ≡ filter (is_other text) (left_of w.deleted w.fresh)
  behind =
      ap (map as_entry) (filter_swap (λ e. is_lt (id_order group.last_id e.id)) (λ e. not (is_eq (id_order e.id id))) entries)
      ∙ without_entry id last_id (entries_behind group.last_id entries) fit
      (all_filter (λ e. IsUpTo last_id e.id) (λ e. is_lt (id_order group.last_id e.id)) entries model.added)
      ∙ ap (filter (is_other text)) model.fresh

  above : listed (ids_of (log_of w)) text ≡ true → (n : Numbers) → is_below w.last n ≡ true → fits n ≡ true
      → listed (text ∷ w.deleted) (group_model.id_text n) ≡ false
  above there n below n_fits = elim (cases_Bool (bytes_eq text (group_model.id_text n))) [
    | inl t ↦
        let is : text ≡ group_model.id_text n = (bytes_eq-Decides text (group_model.id_text n)).0 t in
        absurd (true≢false (sym there ∙ ap (listed (ids_of (log_of w))) is ∙ (model.none_above n below n_fits).0))
    | inr f ↦ rw f (model.none_above n below n_fits).1
  ]

  deleted_by : (b : Bool) → listed (ids_of (log_of w)) text ≡ b
      → IsModelOf (entries_without id entries) last_id group (if b then record w { deleted = text ∷ w.deleted } else w)
  deleted_by true there = record {
    seen = until ∙ left_more text w.deleted w.seen;
    fresh = behind ∙ left_more text w.deleted w.fresh;
    last = model.last;
    pending = model.pending;
    entries_ascend = ascend_filter (λ e. not (is_eq (id_order e.id id))) entries model.entries_ascend;
    pending_ascends = model.pending_ascends;
    added = all_filter (λ e. IsUpTo last_id e.id) (λ e. not (is_eq (id_order e.id id))) entries model.added;
    delivered = model.delivered;
    reached = model.reached;
    none_above = λ n below n_fits. ((model.none_above n below n_fits).0, above there n below n_fits);
  }
  deleted_by false there =
      let others = all_other text (log_of w) there in
      record {
        seen = until ∙ left_same text w.deleted w.seen (all_left (λ e. is_other text e ≡ true) w.seen w.fresh others);
        fresh = behind ∙ left_same text w.deleted w.fresh (all_right (λ e. is_other text e ≡ true) w.seen w.fresh others);
        last = model.last;
        pending = model.pending;
        entries_ascend = ascend_filter (λ e. not (is_eq (id_order e.id id))) entries model.entries_ascend;
        pending_ascends = model.pending_ascends;
        added = all_filter (λ e. IsUpTo last_id e.id) (λ e. not (is_eq (id_order e.id id))) entries model.added;
        delivered = model.delivered;
        reached = model.reached;
        none_above = model.none_above;
      }

  deleted_one : IsModelOf (entries_without id entries) last_id group (deleted_from w text)
  deleted_one = deleted_by (listed (ids_of (log_of w)) text) refl

-- each of the entries is deleted
deleted_all : (ids : List EntryId) (entries : List Entry) (last_id : EntryId) (group : Group) (w : World Fields)
    → AreFit ids → IsModelOf entries last_id group w
    → IsModelOf (entries_without_all ids entries) last_id group (run (map Delete (words_of_ids ids)) w)
deleted_all [] entries last_id group w fit model = model
deleted_all (id ∷ ids) entries last_id group w fit model =
    deleted_all ids (entries_without id entries) last_id group (deleted_from w (id_text id)) fit.1
    (deleted_one entries last_id group w id fit.0 model)

-- ---- among the streams

module _ (key name : List ℕ) (ids : List EntryId) (old new : List Stream) (w : World Fields) (fit : AreFit ids)
    (model : IsModelIn key name (map seen_stream old) w) (count : ℕ) (how : IsChangedAt key (AreDeleted ids count) old new) where
  same : seen_stream how.was ≡ model.stream
  same = changed_was key name (AreDeleted ids count) old new w model how

  groups_stay : (seen_stream how.is).groups ≡ model.stream.groups
  groups_stay = ap (λ (s : Stream). s.groups.items) how.how.others ∙ ap (λ (s : Seen). s.groups) same

  last_stays : (seen_stream how.is).last_id ≡ model.stream.last_id
  last_stays = ap (λ (s : Stream). s.last_id) how.how.others ∙ ap (λ (s : Seen). s.last_id) same

  entries_same : how.was.entries.items ≡ model.stream.entries
  entries_same = ap (λ (s : Seen). s.entries) same

  entries_after : (seen_stream how.is).entries ≡ entries_without_all ids model.stream.entries
  entries_after = how.how.entries (subst EntriesAscend (sym entries_same) model.is.entries_ascend)
      ∙ ap (entries_without_all ids) entries_same

  xdel_model : IsModelIn key name (map seen_stream new) (run (map Delete (words_of_ids ids)) w)
  xdel_model = changed_model key name (AreDeleted ids count) old new w model how
      (ap (λ (s : Stream). s.key.items) how.how.others ∙ ap (λ (s : Seen). s.key) same)
      (run (map Delete (words_of_ids ids)) w) model.place model.group
      (subst (λ (gs : List Group). AreInOrder (map (λ g. g.name.items) gs)) (sym groups_stay) model.names)
      (rw groups_stay model.inside) (ap (λ (gs : List Group). get_or gs model.place model.group) groups_stay ∙ model.stands)
      model.named
      (rw (entries_after, last_stays)
      (deleted_all ids model.stream.entries model.stream.last_id model.group w fit model.is))

pub xdel_is_the_events : XdelIsTheEvents
xdel_is_the_events key name ids [] answer old new w fit same does model = absurd (omega (arith, ap length same))
xdel_is_the_events key name ids (a ∷ words) answer old new w fit same (inl x) model =
    let key_is : x.key ≡ key = sym (x.keyed a) ∙ ap (λ (ts : List (List ℕ)). get_or ts 0 []) same in
    let ids_is : x.ids ≡ ids = read_so words x.ids ids x.read fit (ap (λ (ts : List (List ℕ)). drop 1 ts) same) in
    let how : IsChangedAt key (AreDeleted ids x.count) old new = rw (key_is, ids_is) at x.how in
    (x.count, x.answered, xdel_model key name ids old new w fit model x.count how)
xdel_is_the_events key name ids (a ∷ words) answer old new w fit same (inr x) model =
    let key_is : x.key ≡ key = sym (x.keyed a) ∙ ap (λ (ts : List (List ℕ)). get_or ts 0 []) same in
    let missing : IsMissing x.key (map (λ s. s.key) (map seen_stream old)) =
    subst (IsMissing x.key) (sym (keys_shown old)) (x.none (subst AreInOrder (keys_shown old) model.keys)) in
    absurd (missing model.index [] (omega (arith, model.within, length-map (map seen_stream old) (λ (s : Seen). s.key)))
    (get_or-map (λ (s : Seen). s.key) (map seen_stream old) model.index model.stream [] model.within
    ∙ ap (λ (s : Seen). s.key) model.at ∙ model.keyed ∙ sym key_is))
