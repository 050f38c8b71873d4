-- What a stream and one of its groups are in the model of a group.
use Rattle.std.specs.Global.{Vec}
use Rattle.std.specs.Prelude.{◌≡◌, ◌<◌, ◌+◌, length, slice_index_or, ◌==◌, ℕ, true, false, not, List, [], ◌∷◌, map, filter, min, Some, if◌then◌else◌}
use Rattle.std.specs.List.{AllByRecursion}
use Rattle.std.specs.Ordering.{is_lt}
use Rattle.model_server.specs.Group.Group as group_model
use Rattle.model_server.specs.Group.Group.{Numbers, Name, is_below, fits, listed, ids_of, pending_after}
use Rattle.model_server.specs.Group.Worker as worker_model
use Rattle.model_server.specs.Group.World.{World, Delete, ack_comes, log_of, run}
use Rattle.server_store.specs.EntryId.{id_text}
use Rattle.server_store.specs.Laws.{IsInOrder}
use Rattle.server_store.specs.Laws.{AreInOrder as EntriesAscend}
use Rattle.server_store.specs.Stream.{Seen, seen_stream}
use Rattle.server_store.specs.declared.stream.Stream.{Stream}
use Rattle.server_store.specs.Order.{id_order}
use Rattle.server_store.specs.declared.entry_id.EntryId.{EntryId}
use Rattle.server_store.specs.declared.group.Group.{Group}
use Rattle.server_store.specs.declared.group.Pending.{Pending}
use Rattle.server_store.specs.declared.stream.Entry.{Entry}
use Rattle.server_commands.specs.Acknowledging.{AcknowledgesIn, count_answer, names_of}
use Rattle.server_commands.specs.Deleting.{DeletesIn}
use Rattle.server_commands.specs.Delivering.{entries_behind}
use Rattle.server_commands.specs.IdWords.{AreFit, Fits, texts_of, words_of_ids}
use Rattle.server_commands.specs.Places.{AreInOrder}
use Rattle.server_commands.specs.declared.answer.Answer.{Answer}

-- the fields of an entry: names and values in turn
abbrev pub Fields : Type 0
Fields = List (List ℕ)

-- the two numbers of an id
abbrev pub numbers : EntryId → Numbers
numbers id = (id.milliseconds, id.sequence)

-- an entry in the model
abbrev pub as_entry : Entry → worker_model.Entry Fields
as_entry entry = (id_text entry.id, map (λ value. value.items) entry.fields.items)

-- the name of the consumer of this number; none if there is no such consumer
abbrev pub name_of : ℕ → List (ℕ × Name) → Name
name_of number [] = []
name_of number (c ∷ cs) = if c.0 == number then c.1 else name_of number cs

-- what is pending, in the model
abbrev pub as_pending : List (ℕ × Name) → Pending → group_model.Pending
as_pending names p = record { id = id_text p.id; consumer = name_of p.consumer names; count = p.deliveries }

-- its count as a number of 64 bits has it
abbrev pub capped : group_model.Pending → group_model.Pending
capped p = record p { count = min p.count 18446744073709551615 }

-- Each consumer is the first of its number. Its number, and each number that an entry is pending for, is below the
-- next one.
pub record AreNumbered (group : Group) : Type 0 where
  pub found : AllByRecursion (λ c. name_of c.0 (names_of group.consumers.items) ≡ c.1) (names_of group.consumers.items)
  pub below : AllByRecursion (λ c. c.0 < group.next_number) (names_of group.consumers.items)
  pub pending : AllByRecursion (λ p. p.consumer < group.next_number) group.pending.items

-- the entries that are not deleted
abbrev pub left_of : List worker_model.Id → List (worker_model.Entry Fields) → List (worker_model.Entry Fields)
left_of deleted entries = filter (λ e. not (listed deleted e.0)) entries

-- the entries up to this id, in order
abbrev pub entries_until : EntryId → List Entry → List Entry
entries_until id = filter (λ entry. not (is_lt (id_order id entry.id)))

-- both numbers of an id have 64 bits, and it is not above this one
abbrev pub IsUpTo : EntryId → EntryId → Type 0
IsUpTo last id = Fits id × (is_below (numbers last) (numbers id) ≡ false)

-- no entry above the last id was added or deleted
abbrev pub NoneIsAbove : World Fields → Type 0
NoneIsAbove w = (id : Numbers) → is_below w.last id ≡ true → fits id ≡ true
    → (listed (ids_of (log_of w)) (group_model.id_text id) ≡ false) × (listed w.deleted (group_model.id_text id) ≡ false)

-- The entries of a stream with this last id, and a group of it, are those of the world: what the group has seen, what
-- is fresh to it, and what is pending in it.
pub record IsModelOf (entries : List Entry) (last_id : EntryId) (group : Group) (w : World Fields) : Type 0 where
  pub seen : map as_entry (entries_until group.last_id entries) ≡ left_of w.deleted w.seen
  pub fresh : map as_entry (entries_behind group.last_id entries) ≡ left_of w.deleted w.fresh
  pub last : w.last ≡ numbers last_id
  pub pending : map (as_pending (names_of group.consumers.items)) group.pending.items ≡ map capped w.pending
  pub entries_ascend : EntriesAscend entries
  pub pending_ascends : IsInOrder group
  pub added : AllByRecursion (λ entry. IsUpTo last_id entry.id) entries
  pub delivered : AllByRecursion (λ p. IsUpTo group.last_id p.id) group.pending.items
  pub reached : IsUpTo last_id group.last_id
  pub none_above : NoneIsAbove w

-- The stream of this key and its group of this name, among streams in the order of their keys and groups in that of
-- their names, are those of the world.
pub record IsModelIn (key name : List ℕ) (streams : List Seen) (w : World Fields) : Type 0 where
  pub index : ℕ
  pub stream : Seen
  pub keys : AreInOrder (map (λ s. s.key) streams)
  pub within : index < length streams
  pub at : slice_index_or streams index stream ≡ stream
  pub keyed : stream.key ≡ key
  pub place : ℕ
  pub group : Group
  pub names : AreInOrder (map (λ g. g.name.items) stream.groups)
  pub inside : place < length stream.groups
  pub stands : slice_index_or stream.groups place group ≡ group
  pub named : group.name.items ≡ name
  pub is : IsModelOf stream.entries stream.last_id group w

-- XACK of these ids is the event that an acknowledgement of them comes, and the count is that of those that were
-- pending
pub record XackComes (key name : List ℕ) (ids : List EntryId) (consumer : Name) (count : ℕ) (new : List Seen) (w : World Fields) : Type 0 where
  pub model : IsModelIn key name new (ack_comes w (Some (consumer, words_of_ids ids)))
  pub counted : length (pending_after (words_of_ids ids) w.pending) + count ≡ length w.pending

-- the law of this, whatever the group's world was
abbrev pub XackIsTheEvent : Type 0
XackIsTheEvent = (key name : List ℕ) (ids : List EntryId) (consumer : Name) (arguments : List (Vec ℕ)) (answer : Answer)
    (old new : List Stream) (w : World Fields) → AreFit ids → texts_of arguments ≡ key ∷ name ∷ words_of_ids ids
    → AcknowledgesIn arguments answer old new → IsModelIn key name (map seen_stream old) w
    → (n : ℕ) × (answer ≡ count_answer n) × XackComes key name ids consumer n (map seen_stream new) w

-- XDEL of these ids is the event that each of them is deleted, whatever the group's world was
abbrev pub XdelIsTheEvents : Type 0
XdelIsTheEvents = (key name : List ℕ) (ids : List EntryId) (arguments : List (Vec ℕ)) (answer : Answer)
    (old new : List Stream) (w : World Fields) → AreFit ids → texts_of arguments ≡ key ∷ words_of_ids ids
    → DeletesIn arguments answer old new → IsModelIn key name (map seen_stream old) w
    → (n : ℕ) × (answer ≡ count_answer n) × IsModelIn key name (map seen_stream new) (run (map Delete (words_of_ids ids)) w)
