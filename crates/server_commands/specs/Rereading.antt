-- What XREADGROUP with an id does with one stream.
use Rattle.std.specs.Prelude.{◌≡◌, ◌⊎◌, ◌==◌, ℕ, false, List, [], ◌∷◌, decimal, filter, map, take}
use Rattle.std.specs.List.{AllByRecursion, Contains}
use Rattle.server_store.specs.Consumers.{HasRoom, IsNewcomer, IsSeenAgain}
use Rattle.server_store.specs.EntryId.{id_text}
use Rattle.server_store.specs.Laws.{AreInOrder, IsInOrder}
use Rattle.server_store.specs.PendingList.{pending_behind}
use Rattle.server_store.specs.declared.entry_id.EntryId.{EntryId}
use Rattle.server_store.specs.declared.group.Group.{Group}
use Rattle.server_store.specs.declared.group.Pending.{Pending}
use Rattle.server_store.specs.declared.stream.Entry.{Entry}
use Rattle.server_store.specs.declared.stream.Stream.{Stream}
use Rattle.server_commands.specs.Changed.{IsChangedAt, IsGroupChangedAt}
use Rattle.server_commands.specs.Claiming.{TakesOver, entry_with, ids_of, sent_entry, sent_id}
use Rattle.server_commands.specs.Model.{AreNumbered}
use Rattle.server_commands.specs.Places.{IsMissing, consumer_names}
use Rattle.server_commands.specs.Places.{AreInOrder as NamesAscend}
use Rattle.server_commands.specs.Sent.{Sent, array_of, item_list, more_rows, no_array, no_rows, rows_of, sent}
use Rattle.server_commands.specs.Stalled.{has_entry}
use Rattle.server_commands.specs.declared.answer.Answer.{Answer}
use Rattle.server_commands.specs.declared.commands.read.own.Rereading.{Rereading}

-- what is pending for the consumer of this number, in order
abbrev pub pending_for : ℕ → List Pending → List Pending
pending_for number = filter (λ p. p.consumer == number)

-- the first n that are pending after this id for the consumer of this number
abbrev pub own_behind : ℕ → EntryId → ℕ → List Pending → List Pending
own_behind number id most pending = take most (pending_for number (pending_behind id pending))

-- those whose entry is still in the stream
abbrev pub with_entries : List Entry → List Pending → List Pending
with_entries entries = filter (λ p. has_entry p.id entries)

-- an entry as it is sent, with nil in place of its fields if it is not there
abbrev pub sent_first : EntryId → List Entry → Sent
sent_first id [] = array_of (item_list (sent_id id ∷ no_array ∷ []))
sent_first id (entry ∷ entries) = sent_entry entry

-- what is pending as it is sent
abbrev pub sent_own : List Entry → Pending → Sent
sent_own entries p = sent_first p.id (entry_with p.id entries)

-- entries of the stream of this key as they are sent
abbrev pub sent_row : List ℕ → List Sent → Sent
sent_row key items = rows_of (more_rows key (array_of (item_list items)) no_rows)

-- the word is the text of this id, or of its milliseconds alone if its sequence number is 0
abbrev pub IsWordOf : EntryId → List ℕ → Type 0
IsWordOf id word = (word ≡ id_text id) ⊎ ((word ≡ decimal id.milliseconds) × (id.sequence ≡ 0))

-- the largest id of all
abbrev pub largest : EntryId
largest = record { milliseconds = 18446744073709551615; sequence = 18446744073709551615 }

-- The consumer of this name has this number, and was seen at this moment. If it is new, no other has its name.
abbrev pub IsSeenAlone : List ℕ → ℕ → ℕ → Group → Group → Type 0
IsSeenAlone name now number old new = IsSeenAgain name now number old new
    ⊎ (IsNewcomer name now number old new × (NamesAscend (consumer_names old) → IsMissing name (consumer_names old)))

-- These are the first n that are pending after the id for the consumer of this name: for the number that it has if it
-- is seen.
abbrev pub AreOwn : List ℕ → EntryId → ℕ → Group → List Pending → Type 0
AreOwn name behind most group own =
    (now number : ℕ) (seen : Group) → IsSeenAlone name now number group seen → IsInOrder group
    → NamesAscend (consumer_names group) → AreNumbered group → own ≡ own_behind number behind most group.pending.items

-- The consumer of this name is seen, and these entries are redelivered to it.
pub record DeliversAgain (name : List ℕ) (now : ℕ) (ids : List EntryId) (old new : Group) : Type 0 where
  pub takes : TakesOver name now false ids old new
  pub alone : IsSeenAlone name now takes.number old takes.seen

module _ (key name : List ℕ) (now most : ℕ) (behind : EntryId) where
  -- The first n that are pending after the id for the consumer of this name are the reply. The consumer is seen, and
  -- those whose entry is still there are redelivered to it, at this moment. Nothing else changes.
  pub record Rereads (answer : Answer) (entries : List Entry) (old new : Group) : Type 0 where
    pub own : List Pending
    pub delivered : TakesOver name now false (ids_of (with_entries entries own)) old new
    pub are_own : own ≡ own_behind delivered.number behind most old.pending.items
    pub answered : sent answer ≡ sent_row key (map (sent_own entries) own)

  -- the law of this, if ids and names ascend, and numbers are those of consumers
  abbrev pub ReadsOwn : Answer → Stream → Group → Group → Type 0
  ReadsOwn answer stream old new = AreInOrder stream.entries.items → IsInOrder old → NamesAscend (consumer_names old)
      → AreNumbered old → Rereads answer stream.entries.items old new

  -- in the group of this name of the stream of this key, a consumer reads its own pending entries after this id
  abbrev pub IsRereadIn : List ℕ → Answer → List Stream → List Stream → Type 0
  IsRereadIn group answer = IsChangedAt key (λ was is. IsGroupChangedAt group (ReadsOwn answer was) was is)

module _ (key name : List ℕ) (most : ℕ) (behind : EntryId) where
  -- there is room for the consumer, those with entries are to be delivered, and all are the reply
  pub record IsReadyAgain (entries : List Entry) (group : Group) (read : Rereading) : Type 0 where
    pub own : List Pending
    pub are_own : AreOwn name behind most group own
    pub named : read.room.name.items ≡ name
    pub has_room : HasRoom read.room group
    pub contained : IsInOrder group → AllByRecursion (Contains group.pending.items) own
    pub delivered : AreInOrder entries → read.delivered.items ≡ with_entries entries own
    pub answered : AreInOrder entries → sent read.answer ≡ sent_row key (map (sent_own entries) own)
