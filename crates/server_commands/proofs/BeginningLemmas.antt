-- A group that was just made is that of a world.
use Rattle.std.proofs.Common.{◌≡◌, ℕ, true, false, List, [], ◌∷◌, ◌++◌, map, get_or, subst, inl, inr, refl, sym, ap, ◌∙◌, arith}
use mathlib.Core.Bool.{true≢false}
use Rattle.std.proofs.lemmas.Bool.{cases_Bool}
use Rattle.std.proofs.lemmas.List.{map-append}
use Rattle.std.proofs.lemmas.List.Edits.{get_or-insert_at, length-insert}
use Rattle.std.proofs.lemmas.Slice.Eq.{bytes_eq-Decides}
use Rattle.std.specs.Prelude.{not}
use Rattle.std.specs.List.{AllByRecursion}
use Rattle.std.specs.Ordering.{is_lt}
use Rattle.std.specs.Str.{bytes_eq}
use Rattle.model_server.proofs.GroupLemmas.Numbers.{id_text_injective}
use Rattle.model_server.specs.Group.Group as group_model
use Rattle.model_server.specs.Group.Group.{Numbers, fits, ids_of, is_below, listed}
use Rattle.model_server.specs.Group.Worker as worker_model
use Rattle.model_server.specs.Group.World.{log_of}
use Rattle.server_store.specs.Order.{IsAscending, id_order}
use Rattle.server_store.specs.Stream.{seen_stream}
use Rattle.server_store.specs.declared.entry_id.EntryId.{EntryId}
use Rattle.server_store.specs.declared.group.Group.{Group}
use Rattle.server_store.specs.declared.group.Pending.{Pending}
use Rattle.server_store.specs.declared.stream.Entry.{Entry}
use Rattle.server_store.specs.declared.stream.Stream.{Stream}
use Rattle.server_commands.specs.Acknowledging.{names_of}
use Rattle.server_commands.specs.Delivering.{entries_behind}
use Rattle.server_commands.specs.Model.{Fields, IsModelOf, IsUpTo, as_entry, as_pending, entries_until, numbers}
use Rattle.server_commands.specs.ModelBeginning.{EndsAt, NoEntriesEnd, XgroupCreateBeginsAWorld, world_from}
use Rattle.server_commands.proofs.ModelLemmas.{all_filter, filter_all, fits_so, text_is}

-- an id above the last one is that of no entry
none_listed : (last : EntryId) (es : List Entry) → AllByRecursion (λ e. IsUpTo last e.id) es → (n : Numbers)
    → is_below (numbers last) n ≡ true → fits n ≡ true → listed (ids_of (map as_entry es)) (group_model.id_text n) ≡ false
none_listed last [] up n above fit = refl
none_listed last (e ∷ es) up n above fit = elim (cases_Bool (bytes_eq (as_entry e).0 (group_model.id_text n))) [
  | inl t ↦
      let same : group_model.id_text (numbers e.id) ≡ group_model.id_text n =
      sym (text_is e.id) ∙ (bytes_eq-Decides (as_entry e).0 (group_model.id_text n)).0 t in
      let is : numbers e.id ≡ n = id_text_injective (numbers e.id) n (fits_so e.id up.0.0) fit same in
      absurd (true≢false (sym above ∙ subst (λ (m : Numbers). is_below (numbers last) m ≡ false) is up.0.1))
  | inr f ↦ rw f (none_listed last es up.1 n above fit)
]

-- an id in neither list is not in both together
neither : (xs ys : List (List ℕ)) (t : List ℕ) → listed xs t ≡ false → listed ys t ≡ false → listed (xs ++ ys) t ≡ false
neither [] ys t first second = second
neither (x ∷ xs) ys t first second = elim (cases_Bool (bytes_eq x t)) [
  | inl y ↦ absurd (true≢false (rw y at first))
  | inr f ↦ rw f (neither xs ys t (rw f at first) second)
]

module _ (begin last : EntryId) (es : List Entry) (ends : EndsAt last es) where
  none_above : (n : Numbers) → is_below (numbers last) n ≡ true → fits n ≡ true
      → listed (ids_of (log_of (world_from begin last es))) (group_model.id_text n) ≡ false
  none_above n above fit =
      let seen = none_listed last (entries_until begin es)
      (all_filter (λ e. IsUpTo last e.id) (λ e. not (is_lt (id_order begin e.id))) es ends.below) n above fit in
      let fresh = none_listed last (entries_behind begin es)
      (all_filter (λ e. IsUpTo last e.id) (λ e. is_lt (id_order begin e.id)) es ends.below) n above fit in
      rw (map-append (λ (e : worker_model.Entry Fields). e.0) (map as_entry (entries_until begin es)) (map as_entry (entries_behind begin es)))
      (neither (ids_of (map as_entry (entries_until begin es))) (ids_of (map as_entry (entries_behind begin es)))
      (group_model.id_text n) seen fresh)

  -- a group that has read up to its begin
  group_model_of : (group : Group) → group.last_id ≡ begin → group.pending.items ≡ [] → IsUpTo last begin
      → IsModelOf es last group (world_from begin last es)
  group_model_of group begins nothing reached = record {
    seen = ap (λ (id : EntryId). map as_entry (entries_until id es)) begins ∙ sym (filter_all (map as_entry (entries_until begin es)));
    fresh = ap (λ (id : EntryId). map as_entry (entries_behind id es)) begins ∙ sym (filter_all (map as_entry (entries_behind begin es)));
    last = refl;
    pending = ap (map (as_pending (names_of group.consumers.items))) nothing;
    entries_ascend = ends.ascend;
    pending_ascends = subst (λ (ps : List Pending). IsAscending (λ p. p.id) ps) (sym nothing) (λ i j d before within. absurd (omega (arith, within)));
    added = ends.below;
    delivered = subst (λ (ps : List Pending). AllByRecursion (λ p. IsUpTo group.last_id p.id) ps) (sym nothing) tt;
    reached = subst (IsUpTo last) (sym begins) reached;
    none_above = λ n above fit. (none_above n above fit, refl);
  }

pub xgroup_create_begins_a_world : XgroupCreateBeginsAWorld
xgroup_create_begins_a_world words name entries_read old new does streams ends reached among =
    let made = does.made in
    let entries : new.entries.items ≡ old.entries.items = ap (λ (s : Stream). s.entries.items) made.others in
    let last : new.last_id ≡ old.last_id = ap (λ (s : Stream). s.last_id) made.others in
    record {
      index = among.index;
      stream = seen_stream new;
      keys = among.keys;
      within = among.within;
      at = among.at;
      keyed = refl;
      place = made.index;
      group = made.is;
      names = among.names;
      inside = rw made.groups (omega (arith, made.within, length-insert old.groups.items made.index made.is made.within));
      stands = ap (λ (gs : List Group). get_or gs made.index made.is) made.groups
          ∙ get_or-insert_at old.groups.items made.index made.is made.is made.within;
      named = made.named;
      is = rw (entries, last) (group_model_of made.is.last_id old.last_id old.entries.items ends made.is refl made.no_pending reached);
    }

pub no_entries_end : NoEntriesEnd
no_entries_end last = record { ascend = λ i j d before within. absurd (omega (arith, within)); below = tt }
