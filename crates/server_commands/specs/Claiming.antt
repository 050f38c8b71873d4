-- What XAUTOCLAIM does.
use Rattle.std.specs.Prelude.{◌≡◌, ◌+◌, ◌*◌, ◌-◌, ◌^◌, ℕ, Bool, true, false, List, [], ◌∷◌, ◌++◌, drop, length, map, min, if◌then◌else◌}
use Rattle.std.specs.Global.{Vec}
use Rattle.std.specs.List.{HoldsAt}
use Rattle.std.specs.Ordering.{is_eq}
use Rattle.redis_resp.specs.Tree.{bulk}
use Rattle.server_store.specs.Consumers.{IsSeen}
use Rattle.server_store.specs.EntryId.{id_text}
use Rattle.server_store.specs.Laws.{AreInOrder, IsInOrder}
use Rattle.server_store.specs.Order.{id_order}
use Rattle.server_store.specs.declared.entry_id.EntryId.{EntryId}
use Rattle.server_store.specs.declared.group.Group.{Group}
use Rattle.server_store.specs.declared.group.Pending.{Pending}
use Rattle.server_store.specs.declared.stream.Entry.{Entry}
use Rattle.server_store.specs.declared.stream.Stream.{Stream}
use Rattle.server_commands.specs.Acknowledging.{AreAcknowledged, names_of}
use Rattle.server_commands.specs.Changed.{IsChangedAt, IsGroupChangedAt}
use Rattle.server_commands.specs.Sent.{Sent, array_of, item_list, plain, sent}
use Rattle.server_commands.specs.Stalled.{IsFound}
use Rattle.server_commands.specs.declared.answer.Answer.{Answer}
use Rattle.server_commands.specs.declared.commands.stalled.Claim.{Claim}
use Rattle.server_commands.specs.declared.commands.stalled.Stalled.{Stalled}

-- the id is one of these
abbrev pub is_among : List EntryId → EntryId → Bool
is_among [] id = false
is_among (x ∷ xs) id = if is_eq (id_order id x) then true else is_among xs id

-- the ids of what is pending
abbrev pub ids_of : List Pending → List EntryId
ids_of pending = map (λ p. p.id) pending

-- the first entry with this id, if there is one
abbrev pub entry_with : EntryId → List Entry → List Entry
entry_with id [] = []
entry_with id (entry ∷ entries) = if is_eq (id_order entry.id id) then entry ∷ [] else entry_with id entries

-- the entries with these ids, in the order of the ids
abbrev pub entries_with : List EntryId → List Entry → List Entry
entries_with [] entries = []
entries_with (id ∷ ids) entries = entry_with id entries ++ entries_with ids entries

-- by how much its delivery count grows
abbrev pub times_more : Bool → ℕ
times_more only_ids = if only_ids then 0 else 1

module _ (number now : ℕ) (only_ids : Bool) where
  -- it is pending for the consumer of this number, who was given it at this moment
  abbrev pub taken_over : Pending → Pending
  taken_over p = record {
    id = p.id;
    consumer = number;
    given_at = now;
    deliveries = min (p.deliveries + times_more only_ids) 18446744073709551615;
  }

  -- a pending entry is taken over if its id is one of these, and otherwise stays as it is
  abbrev pub after_claim : List EntryId → Pending → Pending
  after_claim ids p = if is_among ids p.id then taken_over p else p

-- the consumer of this name is seen, and what is pending with these ids is pending for it; the others stay, in order
pub record TakesOver (name : List ℕ) (now : ℕ) (only_ids : Bool) (ids : List EntryId) (old new : Group) : Type 0 where
  pub number : ℕ
  pub seen : Group
  pub how : IsSeen name now number old seen
  pub pending : new.pending.items ≡ map (after_claim number now only_ids ids) old.pending.items
  pub names : names_of new.consumers.items ≡ names_of seen.consumers.items
  pub next : new.next_number ≡ seen.next_number
  pub others : new ≡ record old { pending = new.pending; consumers = new.consumers; next_number = new.next_number }

-- the same if there is at least one such id
abbrev pub IsTakenOver : List ℕ → ℕ → Bool → List EntryId → Group → Group → Type 0
IsTakenOver name now only_ids [] old new = new ≡ old
IsTakenOver name now only_ids (id ∷ ids) old new = TakesOver name now only_ids (id ∷ ids) old new

-- what is found is taken over by the consumer, and what is gone is no longer pending
pub record Settles (name : List ℕ) (claim : Claim) (stalled : Stalled) (old new : Group) : Type 0 where
  pub between : Group
  pub count : ℕ
  pub taken : IsTakenOver name claim.now claim.only_ids (ids_of stalled.claimed.items) old between
  pub acknowledged : AreAcknowledged stalled.gone.items count between new

-- an id as it is sent
abbrev pub sent_id : EntryId → Sent
sent_id id = plain (bulk (id_text id))

-- the names and values of an entry as they are sent
abbrev pub sent_fields : List (Vec ℕ) → Sent
sent_fields fields = array_of (item_list (map (λ f. plain (bulk f.items)) fields))

-- an entry as it is sent: its id and its fields
abbrev pub sent_entry : Entry → Sent
sent_entry e = array_of (item_list (sent_id e.id ∷ sent_fields e.fields.items ∷ []))

-- the reply to XAUTOCLAIM as it is sent
abbrev pub sent_claim : EntryId → List Sent → List EntryId → Sent
sent_claim next claimed gone =
    array_of (item_list (sent_id next ∷ array_of (item_list claimed) ∷ array_of (item_list (map sent_id gone)) ∷ []))

-- an entry that was claimed as it is sent: its id alone, or with its fields
abbrev pub sent_claimed : Bool → Entry → Sent
sent_claimed only_id entry = if only_id then sent_id entry.id else sent_entry entry

-- A claim in a stream finds the entries that were idle long enough and those that were deleted. If the ids ascend, the
-- group is changed by these, and the reply is the next start, the entries that are taken over, and the deleted ids.
pub record Claims (name : List ℕ) (claim : Claim) (answer : Answer) (stream : Stream) (old new : Group) : Type 0 where
  pub stalled : Stalled
  pub found : IsFound stream old claim (min (claim.most * 10) (2 ^ 64 - 1)) stalled
  pub settled : AreInOrder stream.entries.items → IsInOrder old → Settles name claim stalled old new
  pub answered : AreInOrder stream.entries.items → sent answer
      ≡ sent_claim stalled.next (map (sent_claimed claim.only_ids) (entries_with (ids_of stalled.claimed.items) stream.entries.items))
      stalled.gone.items

-- in the group of the stream of this key a consumer claims what is stalled
pub record IsXautoclaim (arguments : List (Vec ℕ)) (now : ℕ) (answer : Answer) (old new : List Stream) : Type 0 where
  pub key : List ℕ
  pub name : List ℕ
  pub consumer : List ℕ
  pub claim : Claim
  pub keyed : HoldsAt (λ word. word.items ≡ key) arguments 0
  pub named : HoldsAt (λ word. word.items ≡ name) arguments 1
  pub by : HoldsAt (λ word. word.items ≡ consumer) arguments 2
  pub at : claim.now ≡ now
  pub plain : length (drop 5 arguments) ≡ 0 → claim.only_ids ≡ false
  pub how : IsChangedAt key (λ was is. IsGroupChangedAt name (Claims consumer claim answer was) was is) old new
