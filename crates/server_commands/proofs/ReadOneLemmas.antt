-- One stream is read for a consumer of one of its groups.
use Rattle.std.proofs.Common.{◌≡◌, ◌<◌, ℕ, Bool, false, subst, List, [], ◌∷◌, get_or, length, map, set, take, refl, rules, sym, ap, ◌∙◌}
use Rattle.std.proofs.lemmas.List.{get_or_default, set-get_or}
use Rattle.std.specs.Prelude.{Option, Some, None}
use Rattle.std.specs.Global.{Vec}
use Rattle.std.specs.List.{AllByRecursion, Contains, HoldsAt}
use Rattle.std.specs.Vec.{with_item}
use Rattle.server_store.specs.Consumers.{HasRoom}
use Rattle.server_store.specs.Laws.{AreInOrder, IsInOrder}
use Rattle.server_store.specs.Room.{HasPlaces}
use Rattle.server_store.specs.declared.entry_id.EntryId.{EntryId}
use Rattle.server_store.specs.declared.group.Group.{Group}
use Rattle.server_store.specs.declared.stream.Entry.{Entry}
use Rattle.server_store.specs.declared.stream.Stream.{Stream}
use Rattle.server_commands.specs.Changed.{IsChangedAt, IsGroupChangedAt}
use Rattle.server_commands.specs.Delivering.{entries_behind}
use Rattle.server_commands.specs.Giving.{IsPut}
use Rattle.server_commands.specs.Reading.{AreNews}
use Rattle.server_commands.specs.Claiming.{ids_of, sent_entry}
use Rattle.server_commands.specs.Rereading.{DeliversAgain, IsReadyAgain, IsRereadIn, ReadsOwn}
use Rattle.server_commands.specs.ReadingOne.{IsAnswered, IsFound, IsReadIn, IsReady, ReadsNews, sent_news}
use Rattle.server_commands.specs.Sent.{Sent, array_of, item_list, more_rows, no_array, no_rows, row_list, rows_of, sent, sent_row}
use Rattle.server_commands.specs.declared.answer.Answer.{Answer, the_lemmas}
use Rattle.server_commands.specs.declared.answer.Answer.TheVariants as a
use Rattle.server_commands.specs.declared.commands.read.Outcome.{Outcome}
use Rattle.server_commands.specs.declared.commands.read.own.Rereading.{Rereading}
use Rattle.server_commands.proofs.PutHandedLemmas.{put_handed}
use Rattle.server_commands.proofs.ReadLemmas.{sent-Array}
use Rattle.server_commands.proofs.RereadLemmas.{own_ready}

sent-Rows : (v : Vec (Vec ℕ × Answer)) → sent (a.Rows v) ≡ rows_of (row_list (map sent_row v.items))
sent-Rows v = search (rules, the_lemmas)

pub row_sent : (rows : Vec (Vec ℕ × Answer)) (key : Vec ℕ) (bytes : List ℕ) (entries : Vec Answer) → rows.items ≡ (key, a.Array entries) ∷ []
    → key.items ≡ bytes
    → sent (a.Rows rows) ≡ rows_of (more_rows bytes (array_of (item_list (map sent entries.items))) no_rows)
row_sent rows key bytes entries is named = sent-Rows rows ∙ rw (is, sent-Array entries, named) refl

-- what is read is ready to be put into the group
pub found_ready : (key name : List ℕ) (now most more : ℕ) (noack : Bool) (f : Option (Vec Answer)) (entries : List Entry) (group start part : Group) (answers : Vec Answer) (read : Outcome)
    → start.last_id ≡ group.last_id → start.entries_read ≡ group.entries_read → start.pending.items ≡ []
    → noack ≡ false → f ≡ Some answers → AreNews name now most noack entries start part f → read.part ≡ part
    → read.room.name.items ≡ name → HasRoom read.room group → more ≡ length part.pending.items → HasPlaces more read.room group
    → sent read.answer ≡ rows_of (more_rows key (array_of (item_list (map sent answers.items))) no_rows)
    → AreInOrder entries → IsFound key name now most entries group (entries_behind group.last_id entries) (Some read)
found_ready key name now most more noack f entries group start part answers read last count none ack f_is news is named roomy many places answered up =
    by (entries_behind group.last_id entries) (ap (λ (id : EntryId). entries_behind id entries) (sym last))
  where
    so : AreNews name now most false entries start part (Some answers)
    so = rw (ack, f_is) at news

    by : (xs : List Entry) → xs ≡ entries_behind start.last_id entries → IsFound key name now most entries group xs (Some read)
    by [] same = (so.1 up).0 (sym same)
    by (e ∷ es) same = record {
      named = named;
      has_room = roomy;
      has_places = rw (is, sym many) places;
      put = λ new put. put_handed name now most entries group start part new last count none so.0 (rw is at put);
      answered = answered ∙ ap (λ (xs : List Sent). rows_of (more_rows key (array_of (item_list xs)) no_rows))
          ((so.1 up).1 ∙ ap (λ (xs : List Entry). map sent_entry (take most xs)) (sym same));
    }

pub found_nothing : (key name : List ℕ) (now most : ℕ) (noack : Bool) (f : Option (Vec Answer)) (entries : List Entry) (group start part : Group)
    → start.last_id ≡ group.last_id → noack ≡ false → f ≡ None → AreNews name now most noack entries start part f
    → AreInOrder entries → IsFound key name now most entries group (entries_behind group.last_id entries) None
found_nothing key name now most noack f entries group start part last ack f_is news up =
    let so : AreNews name now most false entries start part None = rw (ack, f_is) at news in
    rw (ap (λ (id : EntryId). entries_behind id entries) (sym last) ∙ so.1 up) tt

-- what is ready is read
pub read_ready : (key name : List ℕ) (now most : ℕ) (stream : Stream) (old new : Group) (read : Outcome)
    → (AreInOrder stream.entries.items
    → IsFound key name now most stream.entries.items old (entries_behind old.last_id stream.entries.items) (Some read))
    → (HasRoom read.room old → HasPlaces (length read.part.pending.items) read.room old → IsPut read.room.name.items now read.part old new)
    → ReadsNews key name now most read.answer stream old new
read_ready key name now most stream old new read found put up =
    by (entries_behind old.last_id stream.entries.items) (found up)
  where
    by : (news : List Entry) → IsFound key name now most stream.entries.items old news (Some read)
        → IsAnswered key name now most read.answer stream.entries.items old new news
    by [] none = absurd none
    by (e ∷ es) ready = (ready.put new (rw ready.named at (put ready.has_room ready.has_places)), ready.answered)

pub read_nothing : (key name : List ℕ) (now most : ℕ) (stream : Stream) (group : Group) (answer : Answer)
    → (AreInOrder stream.entries.items
    → IsFound key name now most stream.entries.items group (entries_behind group.last_id stream.entries.items) None)
    → sent answer ≡ no_array → ReadsNews key name now most answer stream group group
read_nothing key name now most stream group answer found is up =
    by (entries_behind group.last_id stream.entries.items) (found up)
  where
    by : (news : List Entry) → IsFound key name now most stream.entries.items group news None
        → IsAnswered key name now most answer stream.entries.items group group news
    by [] none = (refl, is)
    by (e ∷ es) some = absurd some

module _ (key name : List ℕ) (How : Stream → Group → Group → Type 0) (streams : List Stream) (index : ℕ) (d e : Stream) (place : ℕ)
    (was : Group) (within : index < length streams) (at : HoldsAt (λ s. s.key.items ≡ key) streams index)
    (inside : place < length (get_or streams index e).groups.items)
    (at_place : HoldsAt (λ g. g.name.items ≡ name) (get_or streams index e).groups.items place)
    (was_is : was ≡ get_or (get_or streams index d).groups.items place was) where
  same : get_or streams index e ≡ get_or streams index d
  same = get_or_default streams index e d within

  -- one group of one stream is changed
  pub changed_in : (is : Group) → How (get_or streams index d) was is
      → IsChangedAt key (λ old new. IsGroupChangedAt name (How old) old new) streams
      (set streams index (record (get_or streams index d) { groups = with_item (get_or streams index d).groups place is }))
  changed_in is how = record {
    index = index;
    was = get_or streams index d;
    is = record (get_or streams index d) { groups = with_item (get_or streams index d).groups place is };
    within = within;
    stood = get_or_default streams index (get_or streams index d) d within;
    named = at d;
    how = record {
      index = place;
      was = was;
      is = is;
      within = rw same at inside;
      stood = sym was_is;
      named = ap (λ (g : Group). g.name.items) was_is ∙ (rw same at at_place) was;
      how = how;
      groups = refl;
      others = refl;
    };
    changed = refl;
  }

  -- or none is
  pub kept_in : How (get_or streams index d) was was
      → IsChangedAt key (λ old new. IsGroupChangedAt name (How old) old new) streams streams
  kept_in how = record {
    index = index;
    was = get_or streams index d;
    is = get_or streams index d;
    within = within;
    stood = get_or_default streams index (get_or streams index d) d within;
    named = at d;
    how = record {
      index = place;
      was = was;
      is = was;
      within = rw same at inside;
      stood = sym was_is;
      named = ap (λ (g : Group). g.name.items) was_is ∙ (rw same at at_place) was;
      how = how;
      groups = sym (ap (set (get_or streams index d).groups.items place) was_is ∙ set-get_or (get_or streams index d).groups.items place was);
      others = refl;
    };
    changed = sym (set-get_or streams index d);
  }

module _ (key name group_name : List ℕ) (now most : ℕ) (streams : List Stream) (index : ℕ) (d e x : Stream) (place : ℕ) (was y : Group)
    (within : index < length streams) (at : HoldsAt (λ s. s.key.items ≡ key) streams index)
    (inside : place < length (get_or streams index e).groups.items)
    (at_place : HoldsAt (λ g. g.name.items ≡ group_name) (get_or streams index e).groups.items place)
    (y_is : y ≡ get_or (get_or streams index x).groups.items place y) where
  x_there : get_or streams index x ≡ get_or streams index d
  x_there = get_or_default streams index x d within

  place_in : place < length (get_or streams index d).groups.items
  place_in = rw (get_or_default streams index e d within) at inside

  y_there : was ≡ get_or (get_or streams index d).groups.items place was → y ≡ was
  y_there was_is = y_is ∙ ap (λ (s : Stream). get_or s.groups.items place y) x_there
      ∙ get_or_default (get_or streams index d).groups.items place y was place_in ∙ sym was_is

  -- what is found there is read
  pub read_put : (is : Group) (read : Outcome) (r : Option Outcome) → was ≡ get_or (get_or streams index d).groups.items place was
      → r ≡ Some read
      → (AreInOrder (get_or streams index x).entries.items → IsFound key name now most (get_or streams index x).entries.items y
      (entries_behind y.last_id (get_or streams index x).entries.items) r)
      → (HasRoom read.room was → HasPlaces (length read.part.pending.items) read.room was → IsPut read.room.name.items now read.part was is)
      → IsReadIn key name now most group_name read.answer streams
      (set streams index (record (get_or streams index d) { groups = with_item (get_or streams index d).groups place is }))
  read_put is read r was_is r_is found put =
      let there = y_there was_is in
      let so : AreInOrder (get_or streams index d).entries.items → IsFound key name now most (get_or streams index d).entries.items was
      (entries_behind was.last_id (get_or streams index d).entries.items) (Some read) = rw (there, x_there, r_is) at found in
      changed_in key group_name (ReadsNews key name now most read.answer) streams index d e place was within at inside at_place was_is is
      (read_ready key name now most (get_or streams index d) was is read so put)

  -- and if nothing is found, nothing is read
  pub read_none : (answer : Answer) (r : Option Outcome) → r ≡ None
      → (AreInOrder (get_or streams index x).entries.items → IsFound key name now most (get_or streams index x).entries.items y
      (entries_behind y.last_id (get_or streams index x).entries.items) r)
      → sent answer ≡ no_array → IsReadIn key name now most group_name answer streams streams
  read_none answer r r_is found is =
      let so : AreInOrder (get_or streams index x).entries.items → IsFound key name now most (get_or streams index x).entries.items y
      (entries_behind y.last_id (get_or streams index x).entries.items) None =
      rw r_is at found in
      kept_in key group_name (ReadsNews key name now most answer) streams index x e place y within at inside at_place
      y_is
      (read_nothing key name now most (get_or streams index x) y answer so is)

  -- what is ready is read again
  pub own_put : (behind : EntryId) (answer : Answer) (is : Group) (read : Rereading) → was ≡ get_or (get_or streams index d).groups.items place was
      → IsReadyAgain key name most behind (get_or streams index x).entries.items y read → answer ≡ read.answer
      → (HasRoom read.room was → IsInOrder was → AllByRecursion (Contains was.pending.items) read.delivered.items
      → DeliversAgain read.room.name.items now (ids_of read.delivered.items) was is)
      → IsRereadIn key name now most behind group_name answer streams
      (set streams index (record (get_or streams index d) { groups = with_item (get_or streams index d).groups place is }))
  own_put behind answer is read was_is ready answered give =
      let there = y_there was_is in
      let so : IsReadyAgain key name most behind (get_or streams index d).entries.items was read = rw (there, x_there) at ready in
      changed_in key group_name (ReadsOwn key name now most behind answer) streams index d e place was within at inside at_place was_is is
      (own_ready key name now most behind answer (get_or streams index d) was is read so answered give)

pub nil_sent : sent a.NilArray ≡ no_array
nil_sent = search (rules, the_lemmas)
