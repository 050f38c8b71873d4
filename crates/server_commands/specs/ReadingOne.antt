-- What XREADGROUP with `>` does with one stream.
use Rattle.std.specs.Prelude.{◌≡◌, ℕ, false, List, [], ◌∷◌, Option, Some, None, length, map, take}
use Rattle.server_store.specs.Consumers.{HasRoom}
use Rattle.server_store.specs.Laws.{AreInOrder}
use Rattle.server_store.specs.Room.{HasPlaces}
use Rattle.server_store.specs.declared.group.Group.{Group}
use Rattle.server_store.specs.declared.stream.Entry.{Entry}
use Rattle.server_store.specs.declared.stream.Stream.{Stream}
use Rattle.server_commands.specs.Changed.{IsChangedAt, IsGroupChangedAt}
use Rattle.server_commands.specs.Delivering.{HandsOut, entries_behind}
use Rattle.server_commands.specs.Giving.{IsPut}
use Rattle.server_commands.specs.Kinds.{IsRows}
use Rattle.server_commands.specs.Claiming.{sent_entry}
use Rattle.server_commands.specs.Sent.{Sent, array_of, item_list, more_rows, no_array, no_rows, rows_of, sent}
use Rattle.server_commands.specs.declared.answer.Answer.{Answer}
use Rattle.server_commands.specs.declared.commands.read.Outcome.{Outcome}

-- entries of the stream of this key as they are sent
abbrev pub sent_news : List ℕ → List Entry → Sent
sent_news key entries = rows_of (more_rows key (array_of (item_list (map sent_entry entries))) no_rows)

module _ (key name : List ℕ) (now most : ℕ) where
  -- without new entries the reply is a null array, and nothing changes; else the first ones are delivered and replied
  abbrev pub IsAnswered : Answer → List Entry → Group → Group → List Entry → Type 0
  IsAnswered answer entries old new [] = (new ≡ old) × (sent answer ≡ no_array)
  IsAnswered answer entries old new (e ∷ es) = HandsOut name now most false entries old new
      × (sent answer ≡ sent_news key (take most (e ∷ es)))

  -- the reply has the entries after the last one that the group delivered
  abbrev pub ReadsNews : Answer → Stream → Group → Group → Type 0
  ReadsNews answer stream old new = AreInOrder stream.entries.items
      → IsAnswered answer stream.entries.items old new (entries_behind old.last_id stream.entries.items)

  -- in the group of this name of the stream of this key, a consumer reads new entries
  abbrev pub IsReadIn : List ℕ → Answer → List Stream → List Stream → Type 0
  IsReadIn group answer = IsChangedAt key (λ was is. IsGroupChangedAt group (ReadsNews answer was) was is)

  -- there is room in the group for what is read, which is delivered if it is put into the group, and is the reply
  pub record IsReady (entries news : List Entry) (group : Group) (read : Outcome) : Type 0 where
    pub named : read.room.name.items ≡ name
    pub has_room : HasRoom read.room group
    pub has_places : HasPlaces (length read.part.pending.items) read.room group
    pub put : (new : Group) → IsPut name now read.part group new → HandsOut name now most false entries group new
    pub answered : sent read.answer ≡ sent_news key (take most news)

  -- without new entries nothing is read, and otherwise the outcome is ready
  abbrev pub IsFound : List Entry → Group → List Entry → Option Outcome → Type 0
  IsFound entries group [] None = Unit {0}
  IsFound entries group [] (Some read) = ⊥
  IsFound entries group (e ∷ es) None = ⊥
  IsFound entries group (e ∷ es) (Some read) = IsReady entries (e ∷ es) group read

-- the reply to what is read has rows
abbrev pub IsInRows : Option Outcome → Type 0
IsInRows None = Unit {0}
IsInRows (Some read) = IsRows read.answer
