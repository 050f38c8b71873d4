-- What the server does is what the model of a group does.
use Rattle.std.specs.Global.{Vec}
use Rattle.std.proofs.Math.Seq.{map-set_same}
use Rattle.std.proofs.lemmas.Bool.{lt-ltb}
use Rattle.std.proofs.lemmas.List.{get_or-map, get_or_default, length-map, length-set, map-set}
use Rattle.std.proofs.Common.{append_assoc, decimal, drop, subst, get_or, get_or-set_same, length, set, inl, inr, ◌≡◌, ◌<◌, ◌^◌, ℕ, Bool, true, false, List, [], ◌∷◌, map, filter, refl, sym, ap, ◌∙◌, arith}
use Rattle.std.specs.Prelude.{not, Some, if◌then◌else◌}
use Rattle.std.specs.List.{AllByRecursion}
use Rattle.std.specs.Ordering.{is_eq}
use Rattle.std.specs.Str.{bytes_eq}
use Rattle.std.specs.declared.cmp.Ordering.{Ordering}
use Rattle.std.specs.declared.cmp.Ordering.TheVariants.{Less, Equal, Greater}
use mathlib.Core.Bool.{true≢false}
use Rattle.std.proofs.lemmas.Bool.{cases_Bool}
use Rattle.std.proofs.lemmas.Bool.Decides.{nat_tests}
use Rattle.std.proofs.lemmas.Slice.Eq.{bytes_eq-Decides}
use Rattle.model_server.proofs.GroupLemmas.Numbers.{id_text_injective}
use Rattle.model_server.specs.Group.Group as group_model
use Rattle.model_server.specs.Group.Group.{Numbers, Name, is_below, fits, listed, ids_of, pending_after}
use Rattle.model_server.specs.Group.World.{World, ack_comes}
use Rattle.server_store.specs.Order.{id_order}
use Rattle.server_store.specs.Pending.{pending_without}
use Rattle.server_store.specs.declared.entry_id.EntryId.{EntryId}
use Rattle.server_store.specs.declared.group.Group.{Group}
use Rattle.server_store.specs.declared.group.Pending.{Pending}
use Rattle.server_store.specs.declared.stream.Entry.{Entry}
use Rattle.server_store.specs.EntryId.{id_text}
use Rattle.server_store.specs.Stream.{Seen, seen_stream}
use Rattle.server_store.specs.declared.stream.Stream.{Stream}
use Rattle.server_commands.specs.Acknowledging.{names_of, AreAcknowledged, pending_without_all}
use Rattle.server_commands.specs.Changed.{IsChangedAt, IsGroupChangedAt}
use Rattle.server_commands.specs.IdWords.{AreFit, AreRead, Fits, texts_of, words_of_ids}
use Rattle.server_commands.specs.Places.{AreInOrder, HasNoGroup, IsMissing, group_names, keys_of}
use Rattle.server_commands.proofs.NameLemmas.{one_place}
use Rattle.server_commands.specs.Model.{Fields, numbers, as_pending, capped, IsModelIn, IsModelOf, IsUpTo, XackComes, XackIsTheEvent}

-- ---- filters

pub filter_map : {A B : Type 0} (f : A → B) (p : B → Bool) (xs : List A)
    → filter p (map f xs) ≡ map f (filter (λ x. p (f x)) xs)
filter_map f p [] = refl
filter_map {A} {B} f p (x ∷ xs) = elim (cases_Bool (p (f x))) [
  | inl t ↦ rw t (ap (λ (ys : List B). f x ∷ ys) (filter_map f p xs))
  | inr none ↦ rw none (filter_map f p xs)
]

pub filter_same : {A : Type 0} (p q : A → Bool) (xs : List A) → AllByRecursion (λ x. p x ≡ q x) xs
    → filter p xs ≡ filter q xs
filter_same p q [] same = refl
filter_same {A} p q (x ∷ xs) same = elim (cases_Bool (q x)) [
  | inl t ↦ rw (same.0, t) (ap (λ (ys : List A). x ∷ ys) (filter_same p q xs same.1))
  | inr f ↦ rw (same.0, f) (filter_same p q xs same.1)
]

pub filter_all : {A : Type 0} (xs : List A) → filter (λ x. true) xs ≡ xs
filter_all [] = refl
filter_all {A} (x ∷ xs) = ap (λ (ys : List A). x ∷ ys) (filter_all xs)

pub all_filter : {A : Type 0} (P : A → Type 0) (p : A → Bool) (xs : List A) → AllByRecursion P xs
    → AllByRecursion P (filter p xs)
all_filter P p [] all = tt
all_filter P p (x ∷ xs) all = elim (cases_Bool (p x)) [
  | inl t ↦ rw t (all.0, all_filter P p xs all.1)
  | inr f ↦ rw f (all_filter P p xs all.1)
]

pub all_map : {A : Type 0} (P Q : A → Type 0) → ((x : A) → P x → Q x) → (xs : List A) → AllByRecursion P xs
    → AllByRecursion Q xs
all_map P Q f [] all = tt
all_map P Q f (x ∷ xs) all = (f x all.0, all_map P Q f xs all.1)

pub filter_neither : {A : Type 0} (a b : A → Bool) (xs : List A)
    → filter (λ x. not (if a x then true else b x)) xs ≡ filter (λ x. not (b x)) (filter (λ x. not (a x)) xs)
filter_neither a b [] = refl
filter_neither {A} a b (x ∷ xs) = elim (cases_Bool (a x)) [
  | inl t ↦ rw t (filter_neither a b xs)
  | inr f ↦ rw f (elim (cases_Bool (b x)) [
    | inl there ↦ rw there (filter_neither a b xs)
    | inr none ↦ rw none (ap (λ (ys : List A). x ∷ ys) (filter_neither a b xs))
  ])
]

-- ---- ids

same_id : (a b : EntryId) → numbers a ≡ numbers b → a ≡ b
same_id a b same = ap (λ (n : Numbers). let id : EntryId = record { milliseconds = n.0; sequence = n.1 } in id) same

equal : (a b : EntryId) → a ≡ b → is_eq (id_order b a) ≡ true
equal a b is = grind (arith, nat_tests, is)

of_equal : (a b : EntryId) → id_order b a ≡ Equal → a ≡ b
of_equal a b is = grind (arith, nat_tests, is)

not_equal : (o : Ordering) → (o ≡ Equal → ⊥) → is_eq o ≡ false
not_equal Less f = refl
not_equal Equal f = absurd (f refl)
not_equal Greater f = refl

pub text_is : (id : EntryId) → id_text id ≡ group_model.id_text (numbers id)
text_is id = append_assoc (decimal id.milliseconds) (45 ∷ []) (decimal id.sequence)

pub fits_so : (id : EntryId) → Fits id → fits (numbers id) ≡ true
fits_so id fit = rw (lt-ltb id.milliseconds (2 ^ 64) fit.0, lt-ltb id.sequence (2 ^ 64) fit.1) refl

-- texts of ids are the same if the ids are
pub apart : (a b : EntryId) → Fits a → Fits b → bytes_eq (id_text a) (id_text b) ≡ is_eq (id_order b a)
apart a b a_fits b_fits = elim (cases_Bool (bytes_eq (id_text a) (id_text b))) [
  | inl t ↦
      let is : a ≡ b = same_id a b (id_text_injective (numbers a) (numbers b) (fits_so a a_fits) (fits_so b b_fits)
      (sym (text_is a) ∙ (bytes_eq-Decides (id_text a) (id_text b)).0 t ∙ text_is b)) in
      t ∙ sym (equal a b is)
  | inr f ↦
      let differ : id_order b a ≡ Equal → ⊥ = λ is.
      true≢false (sym ((bytes_eq-Decides (id_text a) (id_text b)).1 (ap id_text (of_equal a b is))) ∙ f) in
      f ∙ sym (not_equal (id_order b a) differ)
]

-- ---- XACK

abbrev HasFit : Pending → Type 0
HasFit p = Fits p.id

module _ (names : List (ℕ × Name)) where
  -- what is pending without one id
  without : (id : EntryId) (ps : List Pending) (qs : List group_model.Pending) → Fits id
      → AllByRecursion HasFit ps → map (as_pending names) ps ≡ map capped qs
      → map (as_pending names) (pending_without id ps) ≡ map capped (filter (λ q. not (bytes_eq (id_text id) q.id)) qs)
  without id ps qs id_fits fit so =
      let tests = all_map HasFit (λ p. not (is_eq (id_order p.id id)) ≡ not (bytes_eq (id_text id) (id_text p.id)))
      (λ p is. ap not (sym (apart id p.id id_fits is))) ps fit in
      ap (map (as_pending names)) (filter_same (λ p. not (is_eq (id_order p.id id)))
      (λ p. not (bytes_eq (id_text id) (id_text p.id))) ps tests)
      ∙ sym (filter_map (as_pending names) (λ q. not (bytes_eq (id_text id) q.id)) ps)
      ∙ ap (filter (λ q. not (bytes_eq (id_text id) q.id))) so
      ∙ filter_map capped (λ q. not (bytes_eq (id_text id) q.id)) qs

  -- and without all of these
  without_all : (ids : List EntryId) (ps : List Pending) (qs : List group_model.Pending)
      → AreFit ids → AllByRecursion HasFit ps
      → map (as_pending names) ps ≡ map capped qs
      → map (as_pending names) (pending_without_all ids ps) ≡ map capped (pending_after (words_of_ids ids) qs)
  without_all [] ps qs fit all so = so ∙ ap (map capped) (sym (filter_all qs))
  without_all (id ∷ ids) ps qs fit all so =
      without_all ids (pending_without id ps) (filter (λ q. not (bytes_eq (id_text id) q.id)) qs) fit.1
      (all_filter HasFit (λ p. not (is_eq (id_order p.id id))) ps all) (without id ps qs fit.0 all so)
      ∙ ap (map capped) (sym (filter_neither (λ q. bytes_eq (id_text id) q.id) (λ q. listed (words_of_ids ids) q.id) qs))

all_without : (P : Pending → Type 0) (ids : List EntryId) (ps : List Pending) → AllByRecursion P ps
    → AllByRecursion P (pending_without_all ids ps)
all_without P [] ps all = all
all_without P (id ∷ ids) ps all =
    all_without P ids (pending_without id ps) (all_filter P (λ p. not (is_eq (id_order p.id id))) ps all)

acked : (entries : List Entry) (last_id : EntryId) (old new : Group) (w : World Fields) (ids : List EntryId) (count : ℕ)
    (consumer : Name) → AreFit ids → AreAcknowledged ids count old new → IsModelOf entries last_id old w
    → IsModelOf entries last_id new (ack_comes w (Some (consumer, words_of_ids ids)))
acked entries last_id old new w ids count consumer fit how model =
    let left = how.pending model.pending_ascends in
    let stays : new.last_id ≡ old.last_id = ap (λ (g : Group). g.last_id) how.others in
    record {
      seen = rw stays model.seen;
      fresh = rw stays model.fresh;
      last = model.last;
      pending = rw (how.names, left) (without_all (names_of old.consumers.items) ids old.pending.items w.pending fit
          (all_map (λ p. IsUpTo old.last_id p.id) HasFit (λ p is. is.0) old.pending.items model.delivered) model.pending);
      entries_ascend = model.entries_ascend;
      pending_ascends = how.order model.pending_ascends;
      added = model.added;
      delivered = rw (stays, left) (all_without (λ p. IsUpTo old.last_id p.id) ids old.pending.items model.delivered);
      reached = rw stays model.reached;
      none_above = model.none_above;
    }

-- as many are pending as in the world
as_many : (entries : List Entry) (last_id : EntryId) (group : Group) (w : World Fields) → IsModelOf entries last_id group w
    → length group.pending.items ≡ length w.pending
as_many entries last_id group w model =
    sym (length-map group.pending.items (as_pending (names_of group.consumers.items)))
    ∙ ap length model.pending ∙ length-map w.pending capped

-- ---- among the streams

-- the ids that were read
pub read_so : (words : List (Vec ℕ)) (read ids : List EntryId) → AreRead words read → AreFit ids
    → texts_of words ≡ words_of_ids ids → read ≡ ids
read_so [] [] [] so fit same = refl
read_so [] [] (id ∷ ids) so fit same = absurd (omega (arith, ap length same, length-map ids id_text))
read_so [] (r ∷ read) ids so fit same = absurd so
read_so (w ∷ words) [] ids so fit same = absurd so
read_so (w ∷ words) (r ∷ read) [] so fit same = absurd (omega (arith, ap length same, length-map words (λ (w : Vec ℕ). w.items)))
read_so (w ∷ words) (r ∷ read) (id ∷ ids) so fit same =
    let first : r ≡ id = so.0 id fit.0 (ap (λ (ts : List (List ℕ)). get_or ts 0 []) same) in
    let rest : read ≡ ids = read_so words read ids so.1 fit.1 (ap (λ (ts : List (List ℕ)). drop 1 ts) same) in
    rw (first, rest) refl

pub keys_shown : (xs : List Stream) → map (λ s. s.key) (map seen_stream xs) ≡ keys_of xs
keys_shown [] = refl
keys_shown (x ∷ xs) = ap (λ (ks : List (List ℕ)). x.key.items ∷ ks) (keys_shown xs)

-- a group that is there is not missing
never : (key name : List ℕ) (old : List Stream) (w : World Fields) → IsModelIn key name (map seen_stream old) w
    → HasNoGroup key name old → ⊥
never key name [] w model none = absurd (omega (arith, model.within))
never key name (s ∷ rest) w model none =
    let old : List Stream = s ∷ rest in
    let within : model.index < length old = omega (arith, model.within, length-map old seen_stream) in
    let x : Stream = get_or old model.index s in
    let shown : seen_stream x ≡ model.stream =
    sym (get_or-map seen_stream old model.index s (seen_stream s) within)
    ∙ get_or_default (map seen_stream old) model.index (seen_stream s) model.stream model.within ∙ model.at in
    let groups : x.groups.items ≡ model.stream.groups = ap (λ (t : Seen). t.groups) shown in
    let names : group_names x ≡ map (λ g. g.name.items) model.stream.groups = ap (map (λ g. g.name.items)) groups in
    let missing : IsMissing name (map (λ g. g.name.items) model.stream.groups) =
    subst (IsMissing name) names (none model.index x (subst AreInOrder (keys_shown old) model.keys) within (get_or_default old model.index x s within)
    (ap (λ (t : Seen). t.key) shown ∙ model.keyed) (subst AreInOrder (sym names) model.names)) in
    missing model.place [] (omega (arith, model.inside, length-map model.stream.groups (λ (g : Group). g.name.items)))
    (get_or-map (λ (g : Group). g.name.items) model.stream.groups model.place model.group [] model.inside
    ∙ ap (λ (g : Group). g.name.items) model.stands ∙ model.named)

-- one stream of the key is changed, and keeps its key
module _ (key name : List ℕ) (How : Stream → Stream → Type 0) (old new : List Stream) (w : World Fields)
    (model : IsModelIn key name (map seen_stream old) w) (how : IsChangedAt key How old new) where
  there : get_or (map seen_stream old) how.index (seen_stream how.was) ≡ seen_stream how.was
  there = get_or-map seen_stream old how.index how.was (seen_stream how.was) how.within ∙ ap seen_stream how.stood

  here : how.index ≡ model.index
  here = one_place (λ s. s.key) (map seen_stream old) key how.index model.index (seen_stream how.was)
      (omega (arith, how.within, length-map old seen_stream)) model.within model.keys
      (ap (λ (s : Seen). s.key) there ∙ how.named)
      (ap (λ (s : Seen). s.key)
      (get_or_default (map seen_stream old) model.index (seen_stream how.was) model.stream model.within ∙ model.at)
      ∙ model.keyed)

  -- it is the one of the model
  pub changed_was : seen_stream how.was ≡ model.stream
  changed_was = sym there ∙ ap (λ (n : ℕ). get_or (map seen_stream old) n (seen_stream how.was)) here
      ∙ get_or_default (map seen_stream old) model.index (seen_stream how.was) model.stream model.within ∙ model.at

  pub streams_after : map seen_stream new ≡ set (map seen_stream old) model.index (seen_stream how.is)
  streams_after = ap (map seen_stream) how.changed ∙ map-set seen_stream old how.index how.is
      ∙ ap (λ (n : ℕ). set (map seen_stream old) n (seen_stream how.is)) here

  module _ (key_stays : (seen_stream how.is).key ≡ model.stream.key) where
    pub keys_after : map (λ s. s.key) (map seen_stream new) ≡ map (λ s. s.key) (map seen_stream old)
    keys_after = ap (map (λ s. s.key)) streams_after
        ∙ map-set_same (λ (s : Seen). s.key) (map seen_stream old) model.index (seen_stream how.is) model.stream
        (key_stays ∙ ap (λ (s : Seen). s.key) (sym model.at))

    -- after the change a group of it is that of a world
    unfoldable pub changed_model : (now : World Fields) (place : ℕ) (group : Group)
        → AreInOrder (map (λ g. g.name.items) (seen_stream how.is).groups) → place < length (seen_stream how.is).groups
        → get_or (seen_stream how.is).groups place group ≡ group → group.name.items ≡ name
        → IsModelOf (seen_stream how.is).entries (seen_stream how.is).last_id group now
        → IsModelIn key name (map seen_stream new) now
    changed_model now place group names inside stands named is = record {
      index = model.index;
      stream = seen_stream how.is;
      keys = subst AreInOrder (sym keys_after) model.keys;
      within = rw streams_after (omega (arith, model.within, length-set (map seen_stream old) model.index (seen_stream how.is)));
      at = ap (λ (ss : List Seen). get_or ss model.index (seen_stream how.is)) streams_after
          ∙ get_or-set_same (map seen_stream old) model.index (seen_stream how.is) (seen_stream how.is) model.within;
      keyed = key_stays ∙ model.keyed;
      place = place;
      group = group;
      names = names;
      inside = inside;
      stands = stands;
      named = named;
      is = is;
    }

module _ (key name : List ℕ) (ids : List EntryId) (consumer : Name) (old new : List Stream) (w : World Fields) (fit : AreFit ids)
    (model : IsModelIn key name (map seen_stream old) w) (count : ℕ)
    (how : IsChangedAt key (IsGroupChangedAt name (AreAcknowledged ids count)) old new) where
  abbrev Acks : Stream → Stream → Type 0
  Acks = IsGroupChangedAt name (AreAcknowledged ids count)

  same : seen_stream how.was ≡ model.stream
  same = changed_was key name Acks old new w model how

  groups_same : how.was.groups.items ≡ model.stream.groups
  groups_same = ap (λ (s : Seen). s.groups) same

  group_here : how.how.index ≡ model.place
  group_here = one_place (λ g. g.name.items) model.stream.groups name how.how.index model.place how.how.was
      (rw groups_same at how.how.within) model.inside model.names
      (ap (λ (g : Group). g.name.items) (rw groups_same at how.how.stood) ∙ how.how.named)
      (ap (λ (g : Group). g.name.items)
      (get_or_default model.stream.groups model.place how.how.was model.group model.inside ∙ model.stands) ∙ model.named)

  group_same : how.how.was ≡ model.group
  group_same = sym (rw groups_same at how.how.stood) ∙ ap (λ (n : ℕ). get_or model.stream.groups n how.how.was) group_here
      ∙ get_or_default model.stream.groups model.place how.how.was model.group model.inside ∙ model.stands

  name_stays : how.how.is.name.items ≡ model.group.name.items
  name_stays = ap (λ (g : Group). g.name.items) how.how.how.others ∙ ap (λ (g : Group). g.name.items) group_same

  acknowledged : AreAcknowledged ids count model.group how.how.is
  acknowledged = rw group_same at how.how.how

  groups_after : (seen_stream how.is).groups ≡ set model.stream.groups model.place how.how.is
  groups_after = how.how.groups ∙ ap (λ (gs : List Group). set gs how.how.index how.how.is) groups_same
      ∙ ap (λ (n : ℕ). set model.stream.groups n how.how.is) group_here

  names_after : map (λ g. g.name.items) (seen_stream how.is).groups ≡ map (λ g. g.name.items) model.stream.groups
  names_after = ap (map (λ g. g.name.items)) groups_after
      ∙ map-set_same (λ (g : Group). g.name.items) model.stream.groups model.place how.how.is model.group
      (name_stays ∙ ap (λ (g : Group). g.name.items) (sym model.stands))

  now : IsModelOf model.stream.entries model.stream.last_id how.how.is (ack_comes w (Some (consumer, words_of_ids ids)))
  now = acked model.stream.entries model.stream.last_id model.group how.how.is w ids count consumer fit acknowledged model.is

  entries_stay : (seen_stream how.is).entries ≡ model.stream.entries
  entries_stay = ap (λ (s : Stream). s.entries.items) how.how.others ∙ ap (λ (s : Seen). s.entries) same

  last_stays : (seen_stream how.is).last_id ≡ model.stream.last_id
  last_stays = ap (λ (s : Stream). s.last_id) how.how.others ∙ ap (λ (s : Seen). s.last_id) same

  comes : XackComes key name ids consumer count (map seen_stream new) w
  comes = record {
    model = changed_model key name Acks old new w model how
        (ap (λ (s : Stream). s.key.items) how.how.others ∙ ap (λ (s : Seen). s.key) same)
        (ack_comes w (Some (consumer, words_of_ids ids))) model.place how.how.is (subst AreInOrder (sym names_after) model.names)
        (rw groups_after (omega (arith, model.inside, length-set model.stream.groups model.place how.how.is)))
        (ap (λ (gs : List Group). get_or gs model.place how.how.is) groups_after
        ∙ get_or-set_same model.stream.groups model.place how.how.is how.how.is model.inside)
        (name_stays ∙ model.named) (rw (entries_stay, last_stays) now);
    counted = omega (
      arith,
      acknowledged.counted,
      as_many model.stream.entries model.stream.last_id model.group w model.is,
      as_many model.stream.entries model.stream.last_id how.how.is (ack_comes w (Some (consumer, words_of_ids ids))) now,
    );
  }

pub xack_is_the_event : XackIsTheEvent
xack_is_the_event key name ids consumer [] answer old new w fit same does model = absurd (omega (arith, ap length same))
xack_is_the_event key name ids consumer (a ∷ []) answer old new w fit same does model = absurd (omega (arith, ap length same))
xack_is_the_event key name ids consumer (a ∷ b ∷ words) answer old new w fit same (inl x) model =
    let key_is : x.key ≡ key = sym (x.keyed a) ∙ ap (λ (ts : List (List ℕ)). get_or ts 0 []) same in
    let name_is : x.name ≡ name = sym (x.named a) ∙ ap (λ (ts : List (List ℕ)). get_or ts 1 []) same in
    let ids_is : x.ids ≡ ids = read_so words x.ids ids x.read fit (ap (λ (ts : List (List ℕ)). drop 2 ts) same) in
    let how : IsChangedAt key (IsGroupChangedAt name (AreAcknowledged ids x.count)) old new = rw (key_is, name_is, ids_is) at x.how in
    (x.count, x.answered, comes key name ids consumer old new w fit model x.count how)
xack_is_the_event key name ids consumer (a ∷ b ∷ words) answer old new w fit same (inr x) model =
    let key_is : x.key ≡ key = sym (x.keyed a) ∙ ap (λ (ts : List (List ℕ)). get_or ts 0 []) same in
    let name_is : x.name ≡ name = sym (x.named a) ∙ ap (λ (ts : List (List ℕ)). get_or ts 1 []) same in
    let none : HasNoGroup key name old = rw (key_is, name_is) at x.none in
    absurd (never key name old w model none)
