-- A claim in a group is the event of its world.
use Rattle.std.proofs.Common.{◌≡◌, ◌<◌, ◌≤◌, ◌-◌, ◌*◌, ◌^◌, ◌++◌, ℕ, Bool, true, false, List, [], ◌∷◌, map, filter, drop, get_or, subst, refl, sym, ap, ◌∙◌, inl, inr, arith}
use mathlib.Core.Bool.{true≢false}
use Rattle.std.proofs.lemmas.Bool.{cases_Bool}
use Rattle.std.proofs.lemmas.Bool.Decides.{nat_tests}
use Rattle.std.proofs.lemmas.List.{get_or-map, length-map}
use Rattle.std.proofs.lemmas.Slice.Eq.{bytes_eq-Decides}
use Rattle.std.specs.Global.{Vec}
use Rattle.std.specs.Prelude.{not, min, ◌&&◌, ◌||◌, if◌then◌else◌}
use Rattle.std.specs.List.{AllByRecursion}
use Rattle.std.specs.Ordering.{is_eq, is_lt}
use Rattle.std.specs.Str.{bytes_eq}
use Rattle.redis_resp.specs.Tree.{bulk}
use Rattle.model_server.specs.Group.Group as group_model
use Rattle.model_server.specs.Group.Group.{Name, claim_answer, claimed, claimed_one, is_below, listed, pending_ids, whole}
use Rattle.model_server.specs.Group.Worker as worker_model
use Rattle.model_server.specs.Group.World.{World, happens}
use Rattle.server_store.specs.EntryId.{id_text}
use Rattle.server_store.specs.Laws.{IsInOrder}
use Rattle.server_store.specs.Order.{id_order, IsAscending}
use Rattle.server_store.specs.declared.entry_id.EntryId.{EntryId}
use Rattle.server_store.specs.declared.group.Group.{Group}
use Rattle.server_store.specs.declared.group.Pending.{Pending}
use Rattle.server_store.specs.declared.stream.Entry.{Entry}
use Rattle.server_store.specs.declared.stream.Stream.{Stream}
use Rattle.server_commands.specs.Acknowledging.{AreAcknowledged, names_of}
use Rattle.server_commands.specs.Claiming.{Claims, IsTakenOver, Settles, TakesOver, after_claim, entries_with, ids_of, is_among, sent_claim, sent_claimed, times_more}
use Rattle.server_commands.specs.IdWords.{AreFit, Fits}
use Rattle.server_commands.specs.Model.{AreNumbered, Fields, IsModelOf, IsUpTo, as_entry, as_pending, capped, entries_until, name_of, numbers}
use Rattle.server_commands.specs.ModelClaiming.{PendingIsSeen, claiming, is_picked, sent_delivered}
use Rattle.server_commands.specs.Sent.{Sent, array_of, item_list, plain, sent}
use Rattle.server_commands.specs.Stalled.{Found, found_in, found_of, has_entry}
use Rattle.server_commands.specs.declared.answer.Answer.{Answer}
use Rattle.server_commands.specs.declared.commands.stalled.Claim.{Claim}
use Rattle.server_commands.proofs.ClaimLemmas.{all_both, all_drop, all_found, all_so, entries_are, entries_rise, equal, found_true, ids_rise, is_same, Rises, rises_drop, rises_found, rises_of, without_all}
use Rattle.server_commands.proofs.ClaimModelLemmas.{IsPart, all_after, gone_deleted, of_map, there_stays, to_map, words_among}
use Rattle.server_commands.proofs.ClaimNameLemmas.{seen_names}
use Rattle.server_commands.proofs.ModelLemmas.{filter_map, filter_same}

-- ---- lists

all_filtered : {A : Type 0} (P : A → Type 0) (p : A → Bool) (xs : List A) → AllByRecursion P xs → AllByRecursion P (filter p xs)
all_filtered P p [] all = tt
all_filtered P p (x ∷ xs) all = elim (cases_Bool (p x)) [
  | inl t ↦ rw t (all.0, all_filtered P p xs all.1)
  | inr f ↦ rw f (all_filtered P p xs all.1)
]

all_joined : {A : Type 0} (P : A → Type 0) (xs ys : List A) → AllByRecursion P xs → AllByRecursion P ys → AllByRecursion P (xs ++ ys)
all_joined P [] ys all more = more
all_joined P (x ∷ xs) ys all more = (all.0, all_joined P xs ys all.1 more)

-- what holds of each of these holds of an id that is among them
pub of_among : (P : EntryId → Type 0) (ids : List EntryId) → AllByRecursion P ids → (id : EntryId) → is_among ids id ≡ true → P id
of_among P [] all id among = absurd (true≢false (sym among))
of_among P (x ∷ ids) all id among = elim (cases_Bool (is_eq (id_order id x))) [
  | inl t ↦ subst P (sym (is_same id x t)) all.0
  | inr f ↦ of_among P ids all.1 id (rw f at among)
]

filter_and : {A : Type 0} (a b c : A → Bool) (xs : List A)
    → filter (λ x. a x && (b x && c x)) xs ≡ filter (λ x. a x && b x) (filter c xs)
filter_and a b c [] = refl
filter_and {A} a b c (x ∷ xs) = elim (cases_Bool (c x)) [
  | inl t ↦ elim (cases_Bool (a x)) [
    | inl at ↦ elim (cases_Bool (b x)) [
      | inl bt ↦ rw (t, at, bt) (ap (λ (ys : List A). x ∷ ys) (filter_and a b c xs))
      | inr bf ↦ rw (t, at, bf) (filter_and a b c xs)
    ]
    | inr af ↦ rw (t, af) (filter_and a b c xs)
  ]
  | inr f ↦ elim (cases_Bool (a x)) [
    | inl at ↦ elim (cases_Bool (b x)) [
      | inl bt ↦ rw (f, at, bt) (filter_and a b c xs)
      | inr bf ↦ rw (f, at, bf) (filter_and a b c xs)
    ]
    | inr af ↦ rw (f, af) (filter_and a b c xs)
  ]
]

-- those that pass one test are those that pass two, if they pass the other too
filter_both : {A : Type 0} (a b : A → Bool) (xs : List A) → AllByRecursion (λ x. a x ≡ true → b x ≡ true) xs
    → filter a (filter b xs) ≡ filter a xs
filter_both a b [] all = refl
filter_both {A} a b (x ∷ xs) all = elim (cases_Bool (a x)) [
  | inl t ↦
      let also : b x ≡ true = all.0 t in
      rw (also, t) (ap (λ (ys : List A). x ∷ ys) (filter_both a b xs all.1))
  | inr f ↦ elim (cases_Bool (b x)) [
    | inl y ↦ rw (y, f) (filter_both a b xs all.1)
    | inr n ↦ rw (n, f) (filter_both a b xs all.1)
  ]
]

map_map : {A B C : Type 0} (f : A → B) (g : B → C) (xs : List A) → map g (map f xs) ≡ map (λ x. g (f x)) xs
map_map f g [] = refl
map_map {A} {B} {C} f g (x ∷ xs) = ap (λ (ys : List C). g (f x) ∷ ys) (map_map f g xs)

map_same : {A B : Type 0} (f g : A → B) → ((x : A) → f x ≡ g x) → (xs : List A) → map f xs ≡ map g xs
map_same f g same [] = refl
map_same {A} {B} f g same (x ∷ xs) = rw (same x) (ap (λ (ys : List B). g x ∷ ys) (map_same f g same xs))

map_itself : {A : Type 0} (f : A → A) → ((x : A) → f x ≡ x) → (xs : List A) → map f xs ≡ xs
map_itself f same [] = refl
map_itself {A} f same (x ∷ xs) = rw (same x) (ap (λ (ys : List A). x ∷ ys) (map_itself f same xs))

-- ---- what is settled

pub after_id : (number now : ℕ) (only_ids : Bool) (ids : List EntryId) (p : Pending) → (after_claim number now only_ids ids p).id ≡ p.id
after_id number now only_ids ids p = elim (cases_Bool (is_among ids p.id)) [ inl t ↦ rw t refl | inr f ↦ rw f refl ]

pub ascends_after : (f : Pending → Pending) → ((p : Pending) → (f p).id ≡ p.id) → (ps : List Pending)
    → IsAscending (λ p. p.id) ps → IsAscending (λ p. p.id) (map f ps)
ascends_after f same ps up i j d lt bound =
    let long = length-map ps f in
    let first = ap (λ (p : Pending). p.id) (get_or-map f ps i d d (omega (arith, lt, bound, long))) ∙ same (get_or ps i d) in
    let next = ap (λ (p : Pending). p.id) (get_or-map f ps j d d (omega (arith, bound, long))) ∙ same (get_or ps j d) in
    rw (first, next) (up i j d lt (omega (arith, bound, long)))

-- the group after a claim of these ids, of which those are gone
pub record IsSettled (consumer : Name) (now : ℕ) (only_ids : Bool) (taken gone : List EntryId) (old new : Group) : Type 0 where
  pub number : ℕ
  pub pending : new.pending.items ≡ filter (λ p. not (is_among gone p.id)) (map (after_claim number now only_ids taken) old.pending.items)
  pub order : IsInOrder new
  pub numbered : (id : EntryId) → is_among taken id ≡ true → name_of number (names_of new.consumers.items) ≡ consumer
  pub number_below : (id : EntryId) → is_among taken id ≡ true → number < new.next_number
  pub named : (n : ℕ) → n < old.next_number → name_of n (names_of new.consumers.items) ≡ name_of n (names_of old.consumers.items)
  pub found : AllByRecursion (λ c. name_of c.0 (names_of new.consumers.items) ≡ c.1) (names_of new.consumers.items)
  pub below : AllByRecursion (λ c. c.0 < new.next_number) (names_of new.consumers.items)
  pub grows : old.next_number ≤ new.next_number
  pub last : new.last_id ≡ old.last_id
  pub name : new.name ≡ old.name

module _ (consumer : Name) (now count : ℕ) (only_ids : Bool) (gone : List EntryId) (old between new : Group)
    (acknowledged : AreAcknowledged gone count between new) (numbered : AreNumbered old)
    (room : old.next_number < 18446744073709551615) (up : IsInOrder old) where
  next_stays : new.next_number ≡ between.next_number
  next_stays = ap (λ (g : Group). g.next_number) acknowledged.others

  none_taken : between ≡ old → IsSettled consumer now only_ids [] gone old new
  none_taken is =
      let still : IsInOrder between = subst IsInOrder (sym is) up in
      let names : names_of new.consumers.items ≡ names_of old.consumers.items =
      acknowledged.names ∙ ap (λ (g : Group). names_of g.consumers.items) is in
      let next : new.next_number ≡ old.next_number = next_stays ∙ ap (λ (g : Group). g.next_number) is in
      record {
        number = 0;
        pending = acknowledged.pending still ∙ without_all gone between.pending.items
            ∙ ap (λ (g : Group). filter (λ p. not (is_among gone p.id)) g.pending.items) is
            ∙ ap (filter (λ p. not (is_among gone p.id))) (sym (map_itself (after_claim 0 now only_ids []) (λ p. refl) old.pending.items));
        order = acknowledged.order still;
        numbered = λ id among. absurd (true≢false (sym among));
        number_below = λ id among. absurd (true≢false (sym among));
        named = λ n lt. ap (name_of n) names;
        found = subst (λ (ns : List (ℕ × Name)). AllByRecursion (λ c. name_of c.0 ns ≡ c.1) ns) (sym names) numbered.found;
        below = rw (names, next) numbered.below;
        grows = omega (arith, next);
        last = ap (λ (g : Group). g.last_id) acknowledged.others ∙ ap (λ (g : Group). g.last_id) is;
        name = ap (λ (g : Group). g.name) acknowledged.others ∙ ap (λ (g : Group). g.name) is;
      }

  some_taken : (taken : List EntryId) → TakesOver consumer now only_ids taken old between → IsSettled consumer now only_ids taken gone old new
  some_taken taken takes =
      let still : IsInOrder between = rw takes.pending (ascends_after (after_claim takes.number now only_ids taken)
      (after_id takes.number now only_ids taken) old.pending.items up) in
      let seen = seen_names consumer now takes.number old takes.seen takes.how numbered room in
      let names : names_of new.consumers.items ≡ names_of takes.seen.consumers.items = acknowledged.names ∙ takes.names in
      let next : new.next_number ≡ takes.seen.next_number = next_stays ∙ takes.next in
      record {
        number = takes.number;
        pending = acknowledged.pending still ∙ without_all gone between.pending.items
            ∙ ap (filter (λ p. not (is_among gone p.id))) takes.pending;
        order = acknowledged.order still;
        numbered = λ id among. ap (name_of takes.number) names ∙ seen.numbered;
        number_below = λ id among. omega (arith, next, seen.number_below);
        named = λ n lt. ap (name_of n) names ∙ seen.others n lt;
        found = subst (λ (ns : List (ℕ × Name)). AllByRecursion (λ c. name_of c.0 ns ≡ c.1) ns) (sym names) seen.found;
        below = rw (names, next) seen.below;
        grows = omega (arith, next, seen.grows);
        last = ap (λ (g : Group). g.last_id) acknowledged.others ∙ ap (λ (g : Group). g.last_id) takes.others;
        name = ap (λ (g : Group). g.name) acknowledged.others ∙ ap (λ (g : Group). g.name) takes.others;
      }

  pub settled_so : (taken : List EntryId) → IsTakenOver consumer now only_ids taken old between → IsSettled consumer now only_ids taken gone old new
  settled_so [] is = none_taken is
  settled_so (id ∷ taken) takes = some_taken (id ∷ taken) takes

-- ---- the event

-- another world that differs in what is pending, as far as the group goes
pub record IsWorldAfter (w after : World Fields) (pending : List group_model.Pending) : Type 0 where
  pub seen : after.seen ≡ w.seen
  pub fresh : after.fresh ≡ w.fresh
  pub last : after.last ≡ w.last
  pub deleted : after.deleted ≡ w.deleted
  pub pends : after.pending ≡ pending

claiming_leaves : (only_ids : Bool) (consumer : Name) (pick : worker_model.Id → Bool) (next : worker_model.Id) (w : World Fields)
    → IsWorldAfter w (happens w (claiming only_ids consumer pick next)) (claimed (times_more only_ids) pick consumer w.deleted w.pending)
claiming_leaves true consumer pick next w = record { seen = refl; fresh = refl; last = refl; deleted = refl; pends = refl }
claiming_leaves false consumer pick next w = record { seen = refl; fresh = refl; last = refl; deleted = refl; pends = refl }

-- ---- what is found

-- of an id that is found: both of its numbers fit, and it is up to the last delivered one, seen and pending
pub record IsPendingId (last : EntryId) (w : World Fields) (id : EntryId) : Type 0 where
  pub up_to : IsUpTo last id
  pub seen : listed (group_model.ids_of w.seen) (id_text id) ≡ true
  pub pending : listed (pending_ids w.pending) (id_text id) ≡ true

same_text : (t : List ℕ) → bytes_eq t t ≡ true
same_text t = (bytes_eq-Decides t t).1 refl

or_else : (b : Bool) → (if b then true else true) ≡ true
or_else true = refl
or_else false = refl

all_listed : (ps : List Pending) → AllByRecursion (λ p. listed (map (λ q. id_text q.id) ps) (id_text p.id) ≡ true) ps
all_listed [] = tt
all_listed (p ∷ ps) = (
  rw (same_text (id_text p.id)) refl,
  all_so (λ q. listed (map (λ r. id_text r.id) ps) (id_text q.id) ≡ true)
      (λ q. listed (map (λ r. id_text r.id) (p ∷ ps)) (id_text q.id) ≡ true)
      (λ q is. rw is (or_else (bytes_eq (id_text p.id) (id_text q.id)))) ps (all_listed ps),
)

has_or : (b : Bool) → (b || true) ≡ true
has_or true = refl
has_or false = refl

all_have : (es : List Entry) → AllByRecursion (λ e. has_entry e.id es ≡ true) es
all_have [] = tt
all_have (e ∷ es) = (
  rw (equal e.id e.id refl) refl,
  all_so (λ x. has_entry x.id es ≡ true) (λ x. has_entry x.id (e ∷ es) ≡ true)
      (λ x is. rw is (has_or (is_eq (id_order e.id x.id)))) es (all_have es),
)

module _ (entries : List Entry) (last_id : EntryId) (old : Group) (w : World Fields) (model : IsModelOf entries last_id old w)
    (known : PendingIsSeen w) where
  ids_same : pending_ids w.pending ≡ map (λ p. id_text p.id) old.pending.items
  ids_same =
      sym (map_map capped (λ q. q.id) w.pending)
      ∙ ap (map (λ q. q.id)) (sym model.pending)
      ∙ map_map (as_pending (names_of old.consumers.items)) (λ q. q.id) old.pending.items

  all_known : AllByRecursion (λ p. listed (group_model.ids_of w.seen) (id_text p.id) ≡ true) old.pending.items
  all_known = of_map (λ t. listed (group_model.ids_of w.seen) t ≡ true) (λ p. id_text p.id) old.pending.items
      (subst (AllByRecursion (λ t. listed (group_model.ids_of w.seen) t ≡ true)) ids_same
      (to_map (λ t. listed (group_model.ids_of w.seen) t ≡ true) (λ q. q.id) w.pending known))

  pub all_pending : AllByRecursion (λ p. IsPendingId old.last_id w p.id) old.pending.items
  all_pending = all_both (λ p. (IsUpTo old.last_id p.id) × (listed (group_model.ids_of w.seen) (id_text p.id) ≡ true))
      (λ p. listed (pending_ids w.pending) (id_text p.id) ≡ true) (λ p. IsPendingId old.last_id w p.id)
      (λ p a b. record { up_to = a.0; seen = a.1; pending = b }) old.pending.items
      (all_both (λ p. IsUpTo old.last_id p.id) (λ p. listed (group_model.ids_of w.seen) (id_text p.id) ≡ true)
      (λ p. (IsUpTo old.last_id p.id) × (listed (group_model.ids_of w.seen) (id_text p.id) ≡ true))
      (λ p a b. (a, b)) old.pending.items model.delivered all_known)
      (subst (λ (ts : List worker_model.Id). AllByRecursion (λ p. listed ts (id_text p.id) ≡ true) old.pending.items) (sym ids_same)
      (all_listed old.pending.items))

  module _ (consumer : Name) (now : ℕ) (only_ids : Bool) (taken gone : List EntryId) (new : Group)
      (settled : IsSettled consumer now only_ids taken gone old new) (numbered : AreNumbered old)
      (taken_are : AllByRecursion (IsPendingId old.last_id w) taken)
      (gone_are : AllByRecursion (IsPendingId old.last_id w) gone)
      (taken_there : AllByRecursion (λ id. has_entry id entries ≡ true) taken)
      (gone_out : AllByRecursion (λ id. has_entry id entries ≡ false) gone) where
    abbrev Pick : worker_model.Id → Bool
    Pick = is_picked taken gone

    abbrev After : Pending → Pending
    After = after_claim settled.number now only_ids taken

    taken_fit : AreFit taken
    taken_fit = all_so (IsPendingId old.last_id w) Fits (λ id is. is.up_to.0) taken taken_are

    gone_fit : AreFit gone
    gone_fit = all_so (IsPendingId old.last_id w) Fits (λ id is. is.up_to.0) gone gone_are

    has : (id : EntryId) → is_among taken id ≡ true → has_entry id entries ≡ true
    has = of_among (λ id. has_entry id entries ≡ true) taken taken_there

    has_none : (id : EntryId) → is_among gone id ≡ true → has_entry id entries ≡ false
    has_none = of_among (λ id. has_entry id entries ≡ false) gone gone_out

    parts : AllByRecursion (IsPart entries w.deleted (names_of old.consumers.items) (names_of new.consumers.items)) old.pending.items
    parts = all_both (λ p. IsPendingId old.last_id w p.id) (λ p. p.consumer < old.next_number)
        (IsPart entries w.deleted (names_of old.consumers.items) (names_of new.consumers.items))
        (λ p is below. record {
          fit = is.up_to.0;
          named = settled.named p.consumer below;
          here = there_stays entries last_id old w model p.id;
          out = gone_deleted entries last_id old w model p.id is.up_to.0 is.seen;
        }) old.pending.items all_pending numbered.pending

    pending_after : map (as_pending (names_of new.consumers.items)) new.pending.items
        ≡ map capped (claimed (times_more only_ids) Pick consumer w.deleted w.pending)
    pending_after =
        ap (map (as_pending (names_of new.consumers.items))) settled.pending
        ∙ all_after entries w.deleted taken gone settled.number now only_ids consumer (names_of old.consumers.items)
        (names_of new.consumers.items) taken_fit gone_fit has has_none settled.numbered old.pending.items w.pending parts model.pending

    -- the gone ones were deleted
    pub deleted_so : AllByRecursion (λ id. listed w.deleted (id_text id) ≡ true) gone
    deleted_so = all_both (IsPendingId old.last_id w) (λ id. has_entry id entries ≡ false) (λ id. listed w.deleted (id_text id) ≡ true)
        (λ id is none. gone_deleted entries last_id old w model id is.up_to.0 is.seen none) gone gone_are gone_out

    pub numbered_after : AreNumbered new
    numbered_after = record {
      found = settled.found;
      below = settled.below;
      pending = rw settled.pending (all_filtered (λ p. p.consumer < new.next_number) (λ p. not (is_among gone p.id)) (map After old.pending.items)
          (to_map (λ p. p.consumer < new.next_number) After old.pending.items
          (all_so (λ p. p.consumer < old.next_number) (λ p. (After p).consumer < new.next_number) still old.pending.items numbered.pending)));
    }
      where
        still : (p : Pending) → p.consumer < old.next_number → (After p).consumer < new.next_number
        still p below = elim (cases_Bool (is_among taken p.id)) [
          | inl t ↦ rw t (settled.number_below p.id t)
          | inr f ↦ rw f (omega (arith, below, settled.grows))
        ]

    -- ---- the world after

    module _ (after : World Fields) (is : IsWorldAfter w after (claimed (times_more only_ids) Pick consumer w.deleted w.pending)) where
      pub model_after : IsModelOf entries last_id new after
      model_after = record {
        seen = rw (settled.last, is.deleted, is.seen) model.seen;
        fresh = rw (settled.last, is.deleted, is.fresh) model.fresh;
        last = is.last ∙ model.last;
        pending = pending_after ∙ ap (map capped) (sym is.pends);
        entries_ascend = model.entries_ascend;
        pending_ascends = settled.order;
        added = model.added;
        delivered = rw (settled.last, settled.pending)
            (all_filtered (λ p. IsUpTo old.last_id p.id) (λ p. not (is_among gone p.id)) (map After old.pending.items)
            (to_map (λ p. IsUpTo old.last_id p.id) After old.pending.items
            (all_so (λ p. IsUpTo old.last_id p.id) (λ p. IsUpTo old.last_id (After p).id)
            (λ p up. subst (IsUpTo old.last_id) (sym (after_id settled.number now only_ids taken p)) up) old.pending.items model.delivered)));
        reached = rw settled.last model.reached;
        none_above = λ id above fit. rw (is.deleted, is.seen, is.fresh) (model.none_above id (rw is.last at above) fit);
      }

      pub known_after : PendingIsSeen after
      known_after = rw (is.seen, is.pends)
          (all_claimed (λ t. listed (group_model.ids_of w.seen) t ≡ true) (times_more only_ids) Pick consumer w.deleted w.pending known)
        where
          of_one : (P : worker_model.Id → Type 0) (more : ℕ) (pick : worker_model.Id → Bool) (who : Name) (deleted : List worker_model.Id)
              (q : group_model.Pending) → P q.id → AllByRecursion (λ r. P r.id) (claimed_one more pick who deleted q)
          of_one P more pick who deleted q holds = elim (cases_Bool (pick q.id)) [
            | inl t ↦ elim (cases_Bool (listed deleted q.id)) [
              | inl d ↦ rw (t, d) tt
              | inr s ↦ rw (t, s) (holds, tt)
            ]
            | inr f ↦ rw f (holds, tt)
          ]

          all_claimed : (P : worker_model.Id → Type 0) (more : ℕ) (pick : worker_model.Id → Bool) (who : Name) (deleted : List worker_model.Id)
              (qs : List group_model.Pending) → AllByRecursion (λ r. P r.id) qs → AllByRecursion (λ r. P r.id) (claimed more pick who deleted qs)
          all_claimed P more pick who deleted [] all = tt
          all_claimed P more pick who deleted (q ∷ qs) all =
              all_joined (λ (r : group_model.Pending). P r.id) (claimed_one more pick who deleted q) (claimed more pick who deleted qs)
              (of_one P more pick who deleted q all.0) (all_claimed P more pick who deleted qs all.1)

    -- -- the reply

    pick_is : (e : Entry) → IsUpTo last_id e.id → has_entry e.id entries ≡ true
        → (Pick (id_text e.id) && listed (pending_ids w.pending) (id_text e.id)) ≡ is_among taken e.id
    pick_is e up there =
        let claimed_word = words_among taken e.id taken_fit up.0 in
        let gone_word = words_among gone e.id gone_fit up.0 in
        elim (cases_Bool (is_among taken e.id)) [
          | inl t ↦
              let pends : listed (pending_ids w.pending) (id_text e.id) ≡ true =
              of_among (λ id. listed (pending_ids w.pending) (id_text id) ≡ true) taken
              (all_so (IsPendingId old.last_id w) (λ id. listed (pending_ids w.pending) (id_text id) ≡ true) (λ id is. is.pending) taken taken_are) e.id t in
              rw (claimed_word, t, pends) refl
          | inr f ↦ elim (cases_Bool (is_among gone e.id)) [
            | inl g ↦ absurd (true≢false (sym there ∙ has_none e.id g))
            | inr h ↦ rw (claimed_word, f, gone_word, h) refl
          ]
        ]

    pub answer_is : AllByRecursion (λ e. is_among taken e.id ≡ true → not (is_lt (id_order old.last_id e.id)) ≡ true) entries
        → claim_answer Pick w.pending w.deleted w.seen ≡ map whole (map as_entry (filter (λ e. is_among taken e.id) entries))
    answer_is below =
        let u = λ (e : Entry). not (is_lt (id_order old.last_id e.id)) in
        let f = λ (e : worker_model.Entry Fields). Pick e.0 && listed (pending_ids w.pending) e.0 in
        let facts : AllByRecursion (λ e. f (as_entry e) ≡ is_among taken e.id) (entries_until old.last_id entries) =
        all_filtered (λ e. f (as_entry e) ≡ is_among taken e.id) u entries
        (all_both (λ e. IsUpTo last_id e.id) (λ e. has_entry e.id entries ≡ true) (λ e. f (as_entry e) ≡ is_among taken e.id)
        pick_is entries model.added (all_have entries)) in
        ap (map whole) (filter_and (λ e. Pick e.0) (λ e. listed (pending_ids w.pending) e.0) (λ e. not (listed w.deleted e.0)) w.seen
        ∙ ap (filter f) (sym model.seen)
        ∙ filter_map as_entry f (entries_until old.last_id entries)
        ∙ ap (map as_entry) (filter_same (λ e. f (as_entry e)) (λ e. is_among taken e.id) (entries_until old.last_id entries) facts
        ∙ filter_both (λ e. is_among taken e.id) u entries below))

-- ---- a claim in the group of a stream

all_any : {A : Type 0} (P : A → Type 0) → ((x : A) → P x) → (xs : List A) → AllByRecursion P xs
all_any P f [] = tt
all_any P f (x ∷ xs) = (f x, all_any P f xs)

not_behind : (a b : EntryId) → is_below (numbers a) (numbers b) ≡ false → not (is_lt (id_order a b)) ≡ true
not_behind a b none = grind (arith, nat_tests, none)

fields_same : (fields : List (Vec ℕ)) → map (λ f. plain (bulk f)) (map (λ v. v.items) fields) ≡ map (λ f. plain (bulk f.items)) fields
fields_same [] = refl
fields_same (f ∷ fields) = ap (λ (xs : List Sent). plain (bulk f.items) ∷ xs) (fields_same fields)

pub sent_same : (only_ids : Bool) (e : Entry) → sent_delivered only_ids (whole (as_entry e)) ≡ sent_claimed only_ids e
sent_same true e = refl
sent_same false e = ap (λ (xs : List Sent). array_of (item_list (plain (bulk (id_text e.id)) ∷ array_of (item_list xs) ∷ []))) (fields_same e.fields.items)

-- the group of a stream after a claim, and the reply, are those of the world
pub record GroupClaims (consumer : Name) (only_ids : Bool) (taken gone : List EntryId) (next : EntryId) (answer : Answer) (s : Stream) (old new : Group) (w : World Fields) : Type 0 where
  pub name : new.name ≡ old.name
  pub model : IsModelOf s.entries.items s.last_id new (happens w (claiming only_ids consumer (is_picked taken gone) (id_text next)))
  pub numbered : AreNumbered new
  pub seen : PendingIsSeen (happens w (claiming only_ids consumer (is_picked taken gone) (id_text next)))
  pub deleted : AllByRecursion (λ id. listed w.deleted (id_text id) ≡ true) gone
  pub answered : sent answer ≡ sent_claim next
      (map (sent_delivered only_ids) (claim_answer (is_picked taken gone) w.pending w.deleted w.seen)) gone

module _ (s : Stream) (old new : Group) (w : World Fields) (model : IsModelOf s.entries.items s.last_id old w)
    (known : PendingIsSeen w) (numbered : AreNumbered old) (room : old.next_number < 18446744073709551615)
    (consumer : Name) (claim : Claim) (answer : Answer) (claims : Claims consumer claim answer s old new) where
  abbrev Pends : Pending → Type 0
  Pends p = IsPendingId old.last_id w p.id

  abbrev total : Found
  total = found_in s.entries.items claim.now claim.least_idle (min (claim.most * 10) (2 ^ 64 - 1)) claim.most
      (drop claims.found.start old.pending.items)

  found_is : found_of claims.stalled ≡ total
  found_is = claims.found.is model.entries_ascend

  claimed_is : claims.stalled.claimed.items ≡ total.claimed
  claimed_is = ap (λ (f : Found). f.claimed) found_is

  gone_is : claims.stalled.gone.items ≡ total.gone
  gone_is = ap (λ (f : Found). f.gone) found_is

  abbrev taken : List EntryId
  taken = ids_of claims.stalled.claimed.items

  settles : Settles consumer claim claims.stalled old new
  settles = claims.settled model.entries_ascend model.pending_ascends

  settled : IsSettled consumer claim.now claim.only_ids taken claims.stalled.gone.items old new
  settled = settled_so consumer claim.now settles.count claim.only_ids claims.stalled.gone.items old settles.between new
      settles.acknowledged numbered room model.pending_ascends taken settles.taken

  pends : AllByRecursion Pends (drop claims.found.start old.pending.items)
  pends = all_drop Pends claims.found.start old.pending.items (all_pending s.entries.items s.last_id old w model known)

  taken_are : AllByRecursion (IsPendingId old.last_id w) taken
  taken_are =
      let all = all_found s.entries.items claim.now claim.least_idle Pends (IsPendingId old.last_id w) (λ p is. is)
      (min (claim.most * 10) (2 ^ 64 - 1)) claim.most (drop claims.found.start old.pending.items) pends in
      to_map (IsPendingId old.last_id w) (λ p. p.id) claims.stalled.claimed.items
      (subst (AllByRecursion Pends) (sym claimed_is) all.claimed)

  gone_are : AllByRecursion (IsPendingId old.last_id w) claims.stalled.gone.items
  gone_are =
      let all = all_found s.entries.items claim.now claim.least_idle Pends (IsPendingId old.last_id w) (λ p is. is)
      (min (claim.most * 10) (2 ^ 64 - 1)) claim.most (drop claims.found.start old.pending.items) pends in
      subst (AllByRecursion (IsPendingId old.last_id w)) (sym gone_is) all.gone

  taken_there : AllByRecursion (λ id. has_entry id s.entries.items ≡ true) taken
  taken_there =
      let true_of = found_true s.entries.items claim.now claim.least_idle
      (min (claim.most * 10) (2 ^ 64 - 1)) claim.most (drop claims.found.start old.pending.items) in
      to_map (λ id. has_entry id s.entries.items ≡ true) (λ p. p.id) claims.stalled.claimed.items
      (subst (AllByRecursion (λ p. has_entry p.id s.entries.items ≡ true)) (sym claimed_is) true_of.claimed)

  gone_out : AllByRecursion (λ id. has_entry id s.entries.items ≡ false) claims.stalled.gone.items
  gone_out =
      let true_of = found_true s.entries.items claim.now claim.least_idle
      (min (claim.most * 10) (2 ^ 64 - 1)) claim.most (drop claims.found.start old.pending.items) in
      subst (AllByRecursion (λ id. has_entry id s.entries.items ≡ false)) (sym gone_is) true_of.gone

  entries_same : entries_with taken s.entries.items ≡ filter (λ e. is_among taken e.id) s.entries.items
  entries_same = entries_are taken s.entries.items
      (ids_rise claims.stalled.claimed.items (subst Rises (sym claimed_is)
      (rises_found s.entries.items claim.now claim.least_idle (min (claim.most * 10) (2 ^ 64 - 1)) claim.most
      (drop claims.found.start old.pending.items)
      (rises_drop claims.found.start old.pending.items (rises_of old.pending.items model.pending_ascends)))))
      (entries_rise s.entries.items model.entries_ascend)

  below : AllByRecursion (λ e. is_among taken e.id ≡ true → not (is_lt (id_order old.last_id e.id)) ≡ true) s.entries.items
  below = all_any (λ e. is_among taken e.id ≡ true → not (is_lt (id_order old.last_id e.id)) ≡ true)
      (λ e among. not_behind old.last_id e.id ((of_among (IsPendingId old.last_id w) taken taken_are e.id among).up_to.1)) s.entries.items

  abbrev World_after : World Fields
  World_after = happens w (claiming claim.only_ids consumer (is_picked taken claims.stalled.gone.items) (id_text claims.stalled.next))

  after_is : IsWorldAfter w World_after (claimed (times_more claim.only_ids) (is_picked taken claims.stalled.gone.items) consumer w.deleted w.pending)
  after_is = claiming_leaves claim.only_ids consumer (is_picked taken claims.stalled.gone.items) (id_text claims.stalled.next) w

  pub group_claims : GroupClaims consumer claim.only_ids taken claims.stalled.gone.items claims.stalled.next answer s old new w
  group_claims = record {
    name = settled.name;
    model = model_after s.entries.items s.last_id old w model known consumer claim.now claim.only_ids taken claims.stalled.gone.items
        new settled numbered taken_are gone_are taken_there gone_out World_after after_is;
    numbered = numbered_after s.entries.items s.last_id old w model known consumer claim.now claim.only_ids taken claims.stalled.gone.items
        new settled numbered taken_are gone_are taken_there gone_out;
    seen = known_after s.entries.items s.last_id old w model known consumer claim.now claim.only_ids taken claims.stalled.gone.items
        new settled numbered taken_are gone_are taken_there gone_out World_after after_is;
    deleted = deleted_so s.entries.items s.last_id old w model known consumer claim.now claim.only_ids taken claims.stalled.gone.items
        new settled numbered taken_are gone_are taken_there gone_out;
    answered = claims.answered model.entries_ascend
        ∙ ap (λ (xs : List Sent). sent_claim claims.stalled.next xs claims.stalled.gone.items)
        (ap (map (sent_claimed claim.only_ids)) entries_same
        ∙ sym (map_same (λ e. sent_delivered claim.only_ids (whole (as_entry e))) (sent_claimed claim.only_ids) (sent_same claim.only_ids)
        (filter (λ e. is_among taken e.id) s.entries.items))
        ∙ sym (map_map as_entry (λ e. sent_delivered claim.only_ids (whole e)) (filter (λ e. is_among taken e.id) s.entries.items))
        ∙ sym (map_map whole (sent_delivered claim.only_ids) (map as_entry (filter (λ e. is_among taken e.id) s.entries.items)))
        ∙ ap (map (sent_delivered claim.only_ids))
        (sym (answer_is s.entries.items s.last_id old w model known consumer claim.now claim.only_ids taken claims.stalled.gone.items
        new settled numbered taken_are gone_are taken_there gone_out below)));
  }
