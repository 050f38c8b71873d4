-- One entry after the other is acknowledged.
use Rattle.std.proofs.lemmas.Bool.{cases_Bool}
use Rattle.std.proofs.Common.{map, drop, inr, ◌≡◌, ℕ, ◌+◌, ◌-◌, ◌<◌, ◌≤◌, List, [], ◌∷◌, ◌++◌, Bool, true, false, length, get_or, set, take, inl, refl, sym, ap, ◌∙◌, arith}
use Rattle.std.proofs.lemmas.List.{get_or-map, get_or_default, length-map, take_more}
use Rattle.std.specs.Prelude.{◌==◌}
use Rattle.std.proofs.lemmas.List.Edits.{length-remove}
use Rattle.std.specs.Bool.{OnTrue, OnFalse}
use Rattle.std.specs.Global.{Vec}
use Rattle.std.specs.List.{HoldsAt}
use Rattle.std.specs.Vec.{with_item}
use Rattle.server_store.specs.Laws.{IsInOrder}
use Rattle.server_store.specs.Pending.{IsAcknowledged, pending_without, with_less}
use Rattle.server_store.specs.declared.group.Consumer.{Consumer}
use Rattle.server_store.specs.declared.entry_id.EntryId.{EntryId}
use Rattle.server_store.specs.declared.group.Group.{Group}
use Rattle.server_store.specs.declared.group.Pending.{Pending}
use Rattle.server_store.specs.declared.stream.Stream.{Stream}
use Rattle.server_commands.specs.Acknowledging.{AcknowledgesIn, AreAcknowledged, count_answer, names_of, pending_without_all}
use Rattle.server_commands.specs.IdWords.{AreRead}
use Rattle.server_commands.specs.Places.{AreInOrder, IsMissing, group_names, keys_of}
use Rattle.server_commands.proofs.NameLemmas.{one_place}

without_more : (ids : List EntryId) (id : EntryId) (ps : List Pending)
    → pending_without_all (ids ++ id ∷ []) ps ≡ pending_without id (pending_without_all ids ps)
without_more [] id ps = refl
without_more (x ∷ ids) id ps = without_more ids id (pending_without x ps)

fewer : (r : Bool) (id : EntryId) (old new : Group) → OnTrue r (IsAcknowledged id old new) → OnFalse r (new ≡ old)
    → length new.pending.items ≤ length old.pending.items
fewer true id old new gone same =
    let shorter = length-remove old.pending.items gone.index gone.within in
    rw gone.others (omega (arith, shorter))
fewer false id old new gone same = rw same (omega arith)

-- a consumer keeps its number and its name
abbrev named_as : Consumer → ℕ × List ℕ
named_as c = (c.number, c.name.items)

less_named : (number : ℕ) (c : Consumer) → named_as (with_less number c) ≡ named_as c
less_named number c = elim (cases_Bool (c.number == number)) [ inl t ↦ rw t refl | inr f ↦ rw f refl ]

less_names : (number : ℕ) (cs : List Consumer) → names_of (map (with_less number) cs) ≡ names_of cs
less_names number [] = refl
less_names number (c ∷ cs) =
    ap (λ (n : ℕ × List ℕ). n ∷ names_of (map (with_less number) cs)) (less_named number c)
    ∙ ap (λ (ns : List (ℕ × List ℕ)). named_as c ∷ ns) (less_names number cs)

names_stay : (r : Bool) (id : EntryId) (old new : Group) → OnTrue r (IsAcknowledged id old new) → OnFalse r (new ≡ old)
    → names_of new.consumers.items ≡ names_of old.consumers.items
names_stay true id old new gone same = ap names_of gone.counts ∙ less_names gone.was.consumer old.consumers.items
names_stay false id old new gone same = ap (λ (g : Group). names_of g.consumers.items) same

-- one id more
pub acknowledged_more : (ids : List EntryId) (i count : ℕ) (old between new : Group) (id : EntryId) (r : Bool)
    → i < length ids → AreAcknowledged (take i ids) count old between
    → (IsInOrder between → new.pending.items ≡ pending_without (get_or ids i id) between.pending.items)
    → (IsInOrder between → IsInOrder new)
    → OnTrue r (IsAcknowledged (get_or ids i id) between new) → OnFalse r (new ≡ between)
    → new ≡ record between { pending = new.pending; consumers = new.consumers }
    → AreAcknowledged (take (i + 1) ids) (length old.pending.items - length new.pending.items) old new
acknowledged_more ids i count old between new id r lt so_far without order gone same others =
    let grown = take_more ids i id lt in
    let less = fewer r (get_or ids i id) between new gone same in
    record {
      pending = λ up.
          without (so_far.order up)
          ∙ ap (pending_without (get_or ids i id)) (so_far.pending up)
          ∙ sym (without_more (take i ids) (get_or ids i id) old.pending.items)
          ∙ ap (λ xs. pending_without_all xs old.pending.items) (sym grown);
      order = λ up. order (so_far.order up);
      counted = omega (arith, less, so_far.counted);
      names = names_stay r (get_or ids i id) between new gone same ∙ so_far.names;
      others = others ∙ ap (λ (g : Group). record g { pending = new.pending; consumers = new.consumers }) so_far.others;
    }

-- a word that is read as bytes
pub word_at : (words : List (Vec ℕ)) (i : ℕ) (item : Vec ℕ) (bytes : List ℕ) → i < length words → item ≡ get_or words i item
    → bytes ≡ item.items → HoldsAt (λ word. word.items ≡ bytes) words i
word_at words i item bytes lt is same d =
    ap (λ (w : Vec ℕ). w.items) (get_or_default words i d item lt ∙ sym is) ∙ sym same

-- the group of a stream among the others
pub acknowledged_in : (arguments : List (Vec ℕ)) (key name : List ℕ) (ids : List EntryId) (count : ℕ) (streams : List Stream)
    (index : ℕ) (d e : Stream) (place : ℕ) (was is : Group)
    → HoldsAt (λ word. word.items ≡ key) arguments 0 → HoldsAt (λ word. word.items ≡ name) arguments 1
    → AreRead (drop 2 arguments) ids
    → index < length streams → HoldsAt (λ s. s.key.items ≡ key) streams index
    → place < length (get_or streams index e).groups.items
    → HoldsAt (λ g. g.name.items ≡ name) (get_or streams index e).groups.items place
    → was ≡ get_or (get_or streams index d).groups.items place was
    → AreAcknowledged ids count was is
    → AcknowledgesIn arguments (count_answer count) streams
    (set streams index (record (get_or streams index d) { groups = with_item (get_or streams index d).groups place is }))
acknowledged_in arguments key name ids count streams index d e place was is keyed named read within at inside
    at_place was_is how =
    let same : get_or streams index e ≡ get_or streams index d = get_or_default streams index e d within in
    inl (record {
      key = key;
      name = name;
      ids = ids;
      count = count;
      keyed = keyed;
      named = named;
      read = read;
      how = record {
        index = index;
        was = get_or streams index d;
        is = record (get_or streams index d) { groups = with_item (get_or streams index d).groups place is };
        within = within;
        stood = get_or_default streams index (get_or streams index d) d within;
        named = at d;
        how = record {
          index = place;
          was = was;
          is = is;
          within = rw same at inside;
          stood = sym was_is;
          named = ap (λ (g : Group). g.name.items) was_is ∙ (rw same at at_place) was;
          how = how;
          groups = refl;
          others = refl;
        };
        changed = refl;
      };
      answered = refl;
    })

-- no stream has the key
pub acknowledged_nowhere : (arguments : List (Vec ℕ)) (key name : List ℕ) (streams : List Stream)
    → HoldsAt (λ word. word.items ≡ key) arguments 0 → HoldsAt (λ word. word.items ≡ name) arguments 1
    → (AreInOrder (keys_of streams) → IsMissing key (keys_of streams))
    → AcknowledgesIn arguments (count_answer 0) streams streams
acknowledged_nowhere arguments key name streams keyed named missing = inr (record {
  key = key;
  name = name;
  keyed = keyed;
  named = named;
  none = λ k stream up lt at is names.
      let long = length-map streams (λ (s : Stream). s.key.items) in
      absurd (missing up k [] (omega (arith, lt, long))
      (get_or-map (λ (s : Stream). s.key.items) streams k stream [] lt ∙ ap (λ (s : Stream). s.key.items) at ∙ is));
  same = refl;
  answered = refl;
})

-- the stream of the key has no such group
pub acknowledged_without : (arguments : List (Vec ℕ)) (key name : List ℕ) (streams : List Stream) (index : ℕ) (d : Stream)
    → HoldsAt (λ word. word.items ≡ key) arguments 0 → HoldsAt (λ word. word.items ≡ name) arguments 1
    → index < length streams → HoldsAt (λ s. s.key.items ≡ key) streams index
    → (AreInOrder (group_names (get_or streams index d)) → IsMissing name (group_names (get_or streams index d)))
    → AcknowledgesIn arguments (count_answer 0) streams streams
acknowledged_without arguments key name streams index d keyed named within at missing = inr (record {
  key = key;
  name = name;
  keyed = keyed;
  named = named;
  none = λ k stream up lt stands is names.
      let here : k ≡ index = one_place (λ (s : Stream). s.key.items) streams key k index stream lt within up
      (ap (λ (s : Stream). s.key.items) stands ∙ is) (at stream) in
      let same : get_or streams index d ≡ stream =
      get_or_default streams index d stream within ∙ ap (λ (n : ℕ). get_or streams n stream) (sym here) ∙ stands in
      rw same at missing names;
  same = refl;
  answered = refl;
})
