-- What XADD does is that an entry is added.
use Rattle.std.proofs.Common.{◌≡◌, ◌+◌, ◌<◌, ℕ, zero, suc, Bool, true, false, List, [], ◌∷◌, ◌++◌, map, filter, length, get_or, drop, subst, inl, inr, refl, sym, ap, ◌∙◌, append_assoc, append-nil, arith}
use mathlib.Core.Bool.{true≢false}
use Rattle.std.proofs.lemmas.Bool.{cases_Bool}
use Rattle.std.proofs.lemmas.Bool.Decides.{nat_tests}
use Rattle.std.proofs.lemmas.List.{get_or-map, length-map, map-append}
use Rattle.std.proofs.lemmas.List.Elements.{filter-append}
use Rattle.std.proofs.lemmas.Slice.Eq.{bytes_eq-Decides}
use Rattle.std.specs.Prelude.{not, codes}
use Rattle.std.specs.Global.{Vec}
use Rattle.std.specs.List.{AllByRecursion}
use Rattle.std.specs.Ordering.{is_lt}
use Rattle.std.specs.Str.{bytes_eq}
use Rattle.std.specs.declared.cmp.Ordering.TheVariants.{Less}
use Rattle.model_server.proofs.GroupLemmas.Numbers.{below_further, id_text_injective, not_below_itself}
use Rattle.model_server.specs.Group.Group as group_model
use Rattle.model_server.specs.Group.Group.{Numbers, fits, ids_of, is_below, listed}
use Rattle.model_server.specs.Group.Worker as worker_model
use Rattle.model_server.specs.Group.World.{World, Append, happens, log_of}
use Rattle.server_store.proofs.LawLemmas.{entry_laws}
use Rattle.server_store.specs.EntryId.{id_text}
use Rattle.server_store.specs.Order.{id_order}
use Rattle.server_store.specs.Stream.{Seen, seen_stream}
use Rattle.server_store.specs.declared.entry_id.EntryId.{EntryId}
use Rattle.server_store.specs.declared.group.Group.{Group}
use Rattle.server_store.specs.declared.stream.Entry.{Entry}
use Rattle.server_store.specs.declared.stream.Stream.{Stream}
use Rattle.server_commands.specs.Adding.{IsAdded, IsIdFor, IsXadd, id_alone}
use Rattle.server_commands.specs.Changed.{IsChangedAt}
use Rattle.server_commands.specs.Delivering.{entries_behind}
use Rattle.server_commands.specs.IdWords.{Fits, texts_of}
use Rattle.server_commands.specs.Model.{Fields, IsModelIn, IsModelOf, IsUpTo, as_entry, numbers}
use Rattle.server_commands.specs.ModelAdding.{XaddAppends, XaddIsTheEvent}
use Rattle.server_commands.specs.Places.{AreInOrder, IsMissing}
use Rattle.server_commands.specs.declared.answer.Answer.{Answer}
use Rattle.server_commands.specs.declared.commands.new_ids.NewId.{NewId}
use Rattle.server_commands.specs.declared.commands.new_ids.NewId.TheVariants.{Automatic, Given}
use Rattle.server_commands.specs.declared.commands.retention.Retention.{Retention}
use Rattle.server_commands.proofs.ModelLemmas.{changed_model, changed_was, fits_so, keys_shown, text_is}

-- ---- ids

below_so : (a b : EntryId) → id_order a b ≡ Less → is_below (numbers a) (numbers b) ≡ true
below_so a b less = grind (arith, nat_tests, less)

-- what is not above the last id is below one that is
before : (last g new : EntryId) → is_below (numbers last) (numbers g) ≡ false → id_order last new ≡ Less
    → id_order g new ≡ Less
before last g new up less = grind (arith, nat_tests, up, less)

not_above : (last g new : EntryId) → is_below (numbers last) (numbers g) ≡ false → id_order last new ≡ Less
    → is_below (numbers new) (numbers g) ≡ false
not_above last g new up less = grind (arith, nat_tests, up, less)

itself : (n : Numbers) → is_below n n ≡ false
itself n = elim (cases_Bool (is_below n n)) [ inl t ↦ absurd (not_below_itself n t) | inr f ↦ f ]

-- ---- lists

all_snoc : {A : Type 0} (P : A → Type 0) (xs : List A) (y : A) → AllByRecursion P xs → P y → AllByRecursion P (xs ++ y ∷ [])
all_snoc P [] y all is = (is, tt)
all_snoc P (x ∷ xs) y all is = (all.0, all_snoc P xs y all.1 is)

all_same : {A : Type 0} (P Q : A → Type 0) → ((x : A) → P x → Q x) → (xs : List A) → AllByRecursion P xs → AllByRecursion Q xs
all_same P Q f [] all = tt
all_same P Q f (x ∷ xs) all = (f x all.0, all_same P Q f xs all.1)

at_all : {A : Type 0} (P : A → Type 0) (xs : List A) → AllByRecursion P xs → (k : ℕ) (d : A) → k < length xs
    → P (get_or xs k d)
at_all P [] all k d lt = absurd (omega (arith, lt))
at_all P (x ∷ xs) all zero d lt = all.0
at_all P (x ∷ xs) all (suc k) d lt = at_all P xs all.1 k d (omega (arith, lt))

ends_with : {A : Type 0} (p : A → Bool) (xs : List A) (y : A) → p y ≡ true → filter p (xs ++ y ∷ []) ≡ filter p xs ++ y ∷ []
ends_with p xs y is = filter-append p xs (y ∷ []) ∙ rw is refl

ends_without : {A : Type 0} (p : A → Bool) (xs : List A) (y : A) → p y ≡ false → filter p (xs ++ y ∷ []) ≡ filter p xs
ends_without p xs y is = filter-append p xs (y ∷ []) ∙ rw is (append-nil (filter p xs))

not_listed : (ids : List (List ℕ)) (x t : List ℕ) → listed ids t ≡ false → bytes_eq x t ≡ false → listed (ids ++ x ∷ []) t ≡ false
not_listed [] x t none differ = rw differ refl
not_listed (i ∷ ids) x t none differ = elim (cases_Bool (bytes_eq i t)) [
  | inl y ↦ absurd (true≢false (rw y at none))
  | inr f ↦ rw f (not_listed ids x t (rw f at none) differ)
]

-- ---- one entry is added

abbrev entry_of : EntryId → Fields → worker_model.Entry Fields
entry_of id fields = (group_model.id_text (numbers id), fields)

module _ (entries : List Entry) (last_id : EntryId) (group : Group) (w : World Fields) (entry : Entry) (fields : Fields)
    (fielded : map (λ value. value.items) entry.fields.items ≡ fields) (fit : Fits entry.id)
    (above : id_order last_id entry.id ≡ Less) (model : IsModelOf entries last_id group w) where
  same_entry : as_entry entry ≡ entry_of entry.id fields
  same_entry = rw (fielded, text_is entry.id) refl

  below_new : is_below w.last (numbers entry.id) ≡ true
  below_new = rw model.last (below_so last_id entry.id above)

  is_fresh : is_lt (id_order group.last_id entry.id) ≡ true
  is_fresh = ap is_lt (before last_id group.last_id entry.id model.reached.1 above)

  none_deleted : listed w.deleted (group_model.id_text (numbers entry.id)) ≡ false
  none_deleted = (model.none_above (numbers entry.id) below_new (fits_so entry.id fit)).1

  abbrev after : World Fields
  after = record w { fresh = w.fresh ++ entry_of entry.id fields ∷ []; last = numbers entry.id }

  event : happens w (Append (numbers entry.id) fields) ≡ after
  event = rw (below_new, fits_so entry.id fit) refl

  none_after : (n : Numbers) → is_below (numbers entry.id) n ≡ true → fits n ≡ true
      → (listed (ids_of (log_of after)) (group_model.id_text n) ≡ false) × (listed w.deleted (group_model.id_text n) ≡ false)
  none_after n over n_fits =
      let old = model.none_above n (below_further w.last (numbers entry.id) n below_new over) n_fits in
      let differ : bytes_eq (group_model.id_text (numbers entry.id)) (group_model.id_text n) ≡ false =
      elim (cases_Bool (bytes_eq (group_model.id_text (numbers entry.id)) (group_model.id_text n))) [
        | inl t ↦
            let is : numbers entry.id ≡ n = id_text_injective (numbers entry.id) n (fits_so entry.id fit) n_fits
            ((bytes_eq-Decides (group_model.id_text (numbers entry.id)) (group_model.id_text n)).0 t) in
            absurd (not_below_itself n (subst (λ (m : Numbers). is_below m n ≡ true) is over))
        | inr f ↦ f
      ] in
      let log : ids_of (log_of after) ≡ ids_of (log_of w) ++ group_model.id_text (numbers entry.id) ∷ [] =
      ap ids_of (sym (append_assoc w.seen w.fresh (entry_of entry.id fields ∷ [])))
      ∙ map-append (λ e. e.0) (log_of w) (entry_of entry.id fields ∷ []) in
      (rw log (not_listed (ids_of (log_of w)) (group_model.id_text (numbers entry.id)) (group_model.id_text n) old.0 differ), old.1)

  added_one : IsModelOf (entries ++ entry ∷ []) entry.id group after
  added_one = record {
    seen = ap (map as_entry) (ends_without (λ e. not (is_lt (id_order group.last_id e.id))) entries entry (ap not is_fresh)) ∙ model.seen;
    fresh = ap (map as_entry) (ends_with (λ e. is_lt (id_order group.last_id e.id)) entries entry is_fresh)
        ∙ map-append as_entry (entries_behind group.last_id entries) (entry ∷ [])
        ∙ ap (λ (e : worker_model.Entry Fields). map as_entry (entries_behind group.last_id entries) ++ e ∷ []) same_entry
        ∙ ap (λ (es : List (worker_model.Entry Fields)). es ++ entry_of entry.id fields ∷ []) model.fresh
        ∙ sym (ends_with (λ e. not (listed w.deleted e.0)) w.fresh (entry_of entry.id fields) (ap not none_deleted));
    last = refl;
    pending = model.pending;
    entries_ascend = entry_laws.appended entry entries
        (λ k d lt. before last_id (get_or entries k d).id entry.id (at_all (λ e. IsUpTo last_id e.id) entries model.added k d lt).1 above)
        model.entries_ascend;
    pending_ascends = model.pending_ascends;
    added = all_snoc (λ e. IsUpTo entry.id e.id) entries entry
        (all_same (λ e. IsUpTo last_id e.id) (λ e. IsUpTo entry.id e.id)
        (λ e is. (is.0, not_above last_id e.id entry.id is.1 above)) entries model.added)
        (fit, itself (numbers entry.id));
    delivered = model.delivered;
    reached = (model.reached.0, not_above last_id group.last_id entry.id model.reached.1 above);
    none_above = none_after;
  }

  pub added_model : IsModelOf (entries ++ entry ∷ []) entry.id group (happens w (Append (numbers entry.id) fields))
  added_model = subst (IsModelOf (entries ++ entry ∷ []) entry.id group) (sym event) added_one

-- ---- among the streams

module _ (key name : List ℕ) (asked : NewId) (fields : Fields) (given : Vec (Vec ℕ)) (texts : texts_of given.items ≡ fields) (now : ℕ)
    (answer : Answer) (old new : List Stream) (w : World Fields) (model : IsModelIn key name (map seen_stream old) w)
    (how : IsChangedAt key (IsAdded given (id_alone asked) now answer) old new) where
  abbrev Adds : Stream → Stream → Type 0
  Adds = IsAdded given (id_alone asked) now answer

  same : seen_stream how.was ≡ model.stream
  same = changed_was key name Adds old new w model how

  is_longer : seen_stream how.is ≡ seen_stream how.how.longer
  is_longer = ap seen_stream how.how.trimmed

  others : seen_stream how.is
      ≡ record (seen_stream how.was) { entries = how.is.entries.items; nodes = how.is.nodes.items; last_id = how.is.last_id; entries_added = how.is.entries_added }
  others = rw how.how.trimmed (ap seen_stream how.how.added.others)

  groups_stay : (seen_stream how.is).groups ≡ model.stream.groups
  groups_stay = ap (λ (s : Seen). s.groups) others ∙ ap (λ (s : Seen). s.groups) same

  entries_after : (seen_stream how.is).entries ≡ model.stream.entries ++ how.how.entry ∷ []
  entries_after = ap (λ (s : Seen). s.entries) is_longer ∙ how.how.added.entries
      ∙ ap (λ (s : Seen). s.entries ++ how.how.entry ∷ []) same

  last_after : (seen_stream how.is).last_id ≡ how.how.entry.id
  last_after = ap (λ (s : Seen). s.last_id) is_longer ∙ how.how.added.last_id

  above : id_order model.stream.last_id how.how.entry.id ≡ Less
  above = subst (λ (id : EntryId). id_order id how.how.entry.id ≡ Less) (ap (λ (s : Seen). s.last_id) same) how.how.above

  entry_fields : map (λ value. value.items) how.how.entry.fields.items ≡ fields
  entry_fields = ap (λ (v : Vec (Vec ℕ)). texts_of v.items) how.how.fielded ∙ texts

  appends : XaddAppends key name how.how.entry.id fields answer (map seen_stream new) w
  appends = record {
    answered = how.how.answered;
    above = rw model.is.last (below_so model.stream.last_id how.how.entry.id above);
    model = changed_model key name Adds old new w model how
        (ap (λ (s : Seen). s.key) others ∙ ap (λ (s : Seen). s.key) same)
        (happens w (Append (numbers how.how.entry.id) fields)) model.place model.group
        (subst (λ (gs : List Group). AreInOrder (map (λ g. g.name.items) gs)) (sym groups_stay) model.names)
        (rw groups_stay model.inside) (ap (λ (gs : List Group). get_or gs model.place model.group) groups_stay ∙ model.stands)
        model.named
        (rw (entries_after, last_after)
        (added_model model.stream.entries model.stream.last_id model.group w how.how.entry fields entry_fields how.how.fit above model.is));
  }

-- a stream that is there is not missing
pub never : (key name : List ℕ) (old : List Stream) (w : World Fields) → IsModelIn key name (map seen_stream old) w
    → (AreInOrder (map (λ s. s.key.items) old) → IsMissing key (map (λ s. s.key.items) old)) → ⊥
never key name old w model none =
    let missing : IsMissing key (map (λ s. s.key) (map seen_stream old)) =
    subst (IsMissing key) (sym (keys_shown old)) (none (subst AreInOrder (keys_shown old) model.keys)) in
    missing model.index [] (omega (arith, model.within, length-map (map seen_stream old) (λ (s : Seen). s.key)))
    (get_or-map (λ (s : Seen). s.key) (map seen_stream old) model.index model.stream [] model.within
    ∙ ap (λ (s : Seen). s.key) model.at ∙ model.keyed)

module _ (key name command asked : List ℕ) (fields : Fields) (now : ℕ) (answer : Answer) (old new : List Stream) (w : World Fields)
    (a b c : Vec ℕ) (words : List (Vec ℕ)) (texts : texts_of (a ∷ b ∷ c ∷ words) ≡ command ∷ key ∷ asked ∷ fields)
    (x : IsXadd (a ∷ b ∷ c ∷ words) now answer old new) (model : IsModelIn key name (map seen_stream old) w) where
  key_is : x.key ≡ key
  key_is = sym (x.keyed a) ∙ ap (λ (ts : List (List ℕ)). get_or ts 1 []) texts

  -- the options are an id alone
  alone : (wanted : NewId) → x.options ≡ id_alone wanted
      → (id : EntryId) × ((last : EntryId) × IsIdFor last wanted now id) × XaddAppends key name id fields answer (map seen_stream new) w
  alone wanted options = elim x.how [
    | inl how ↦
        let at : IsChangedAt key (IsAdded x.fields (id_alone wanted) now answer) old new = rw (key_is, options) at how in
        let rest : x.fields.items ≡ words = x.fielded ∙ ap (λ (o : Retention). drop (2 + o.len) (a ∷ b ∷ c ∷ words)) options in
        let are : texts_of x.fields.items ≡ fields = ap texts_of rest ∙ ap (λ (ts : List (List ℕ)). drop 3 ts) texts in
        (at.how.entry.id, (at.was.last_id, at.how.wanted), appends key name wanted fields x.fields are now answer old new w model at)
    | inr none ↦ absurd (never key name old w model (rw key_is at none.none))
  ]

  first : texts_of (drop 2 (a ∷ b ∷ c ∷ words)) ≡ asked ∷ fields
  first = ap (λ (ts : List (List ℕ)). drop 2 ts) texts

  of_given : (id : EntryId) → Fits id → asked ≡ id_text id → XaddAppends key name id fields answer (map seen_stream new) w
  of_given id fit is =
      let told = alone (Given id) (x.read.given id fields fit (first ∙ ap (λ (t : List ℕ). t ∷ fields) is)) in
      subst (λ (i : EntryId). XaddAppends key name i fields answer (map seen_stream new) w) told.1.1 told.2

  of_automatic : asked ≡ codes "*" → (id : EntryId) × XaddAppends key name id fields answer (map seen_stream new) w
  of_automatic is =
      let told = alone Automatic (x.read.automatic fields (first ∙ ap (λ (t : List ℕ). t ∷ fields) is)) in
      (told.0, told.2)

pub xadd_is_the_event : XaddIsTheEvent
xadd_is_the_event key name command asked fields [] now answer old new w texts x model = absurd (omega (arith, ap length texts))
xadd_is_the_event key name command asked fields (a ∷ []) now answer old new w texts x model = absurd (omega (arith, ap length texts))
xadd_is_the_event key name command asked fields (a ∷ b ∷ []) now answer old new w texts x model = absurd (omega (arith, ap length texts))
xadd_is_the_event key name command asked fields (a ∷ b ∷ c ∷ words) now answer old new w texts x model = (
  of_given key name command asked fields now answer old new w a b c words texts x model,
  of_automatic key name command asked fields now answer old new w a b c words texts x model,
)
