-- What XACK does.
use Rattle.std.specs.Prelude.{◌≡◌, ◌+◌, ◌⊎◌, ℕ, pos, List, [], ◌∷◌, drop, length, map, min}
use Rattle.std.specs.Global.{Vec}
use Rattle.std.specs.List.{HoldsAt}
use Rattle.server_store.specs.Laws.{IsInOrder}
use Rattle.server_store.specs.Pending.{pending_without}
use Rattle.server_store.specs.declared.entry_id.EntryId.{EntryId}
use Rattle.server_store.specs.declared.group.Consumer.{Consumer}
use Rattle.server_store.specs.declared.group.Group.{Group}
use Rattle.server_store.specs.declared.group.Pending.{Pending}
use Rattle.server_store.specs.declared.stream.Stream.{Stream}
use Rattle.server_commands.specs.Changed.{IsChangedAt, IsGroupChangedAt}
use Rattle.server_commands.specs.IdWords.{AreRead}
use Rattle.server_commands.specs.Places.{HasNoGroup}
use Rattle.server_commands.specs.declared.answer.Answer.{Answer}
use Rattle.server_commands.specs.declared.answer.Answer.TheVariants.{Int}

-- what is pending with other ids than these, in order
abbrev pub pending_without_all : List EntryId → List Pending → List Pending
pending_without_all [] pending = pending
pending_without_all (id ∷ ids) pending = pending_without_all ids (pending_without id pending)

-- the numbers and the names of consumers
abbrev pub names_of : List Consumer → List (ℕ × List ℕ)
names_of consumers = map (λ c. (c.number, c.name.items)) consumers

-- the pending entries with these ids are removed, and `count` were pending; the others stay, in order
pub record AreAcknowledged (ids : List EntryId) (count : ℕ) (old new : Group) : Type 0 where
  pub pending : IsInOrder old → new.pending.items ≡ pending_without_all ids old.pending.items
  pub order : IsInOrder old → IsInOrder new
  pub counted : length new.pending.items + count ≡ length old.pending.items
  pub names : names_of new.consumers.items ≡ names_of old.consumers.items
  pub others : new ≡ record old { pending = new.pending; consumers = new.consumers }

-- a count as a reply
abbrev pub count_answer : ℕ → Answer
count_answer n = Int (pos (min n 9223372036854775807))

-- the pending entries with the ids in the other arguments are acknowledged in the group, and counted
pub record IsXack (arguments : List (Vec ℕ)) (answer : Answer) (old new : List Stream) : Type 0 where
  pub key : List ℕ
  pub name : List ℕ
  pub ids : List EntryId
  pub count : ℕ
  pub keyed : HoldsAt (λ word. word.items ≡ key) arguments 0
  pub named : HoldsAt (λ word. word.items ≡ name) arguments 1
  pub read : AreRead (drop 2 arguments) ids
  pub how : IsChangedAt key (IsGroupChangedAt name (AreAcknowledged ids count)) old new
  pub answered : answer ≡ count_answer count

-- there is no such group
pub record IsXackOfNone (arguments : List (Vec ℕ)) (answer : Answer) (old new : List Stream) : Type 0 where
  pub key : List ℕ
  pub name : List ℕ
  pub keyed : HoldsAt (λ word. word.items ≡ key) arguments 0
  pub named : HoldsAt (λ word. word.items ≡ name) arguments 1
  pub none : HasNoGroup key name old
  pub same : new ≡ old
  pub answered : answer ≡ count_answer 0

-- entries are acknowledged in the group, or there is no such group
abbrev pub AcknowledgesIn : List (Vec ℕ) → Answer → List Stream → List Stream → Type 0
AcknowledgesIn arguments answer old new = IsXack arguments answer old new ⊎ IsXackOfNone arguments answer old new
