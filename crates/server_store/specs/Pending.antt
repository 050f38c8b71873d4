-- What is pending in a group, and for whom.
use Rattle.std.specs.Prelude.{◌≡◌, ◌≤◌, ◌<◌, ◌+◌, ◌-◌, ◌==◌, ◌⊎◌, if◌then◌else◌, ℕ, List, Option, Some, None, not, filter, length, map, min}
use Rattle.std.specs.Prelude.{slice_index_or, slice_set, insert, remove}
use Rattle.std.specs.Ordering.{is_eq}
use Rattle.server_store.specs.Order.{id_order, IsAscending, IsGapFor}
use Rattle.server_store.specs.declared.entry_id.EntryId.{EntryId}
use Rattle.server_store.specs.declared.group.Consumer.{Consumer}
use Rattle.server_store.specs.declared.group.Group.{Group}
use Rattle.server_store.specs.declared.group.Pending.{Pending}

-- one more is pending for the consumer of this number
abbrev pub with_more : ℕ → Consumer → Consumer
with_more number c =
    if c.number == number then record c { pending = min (c.pending + 1) 18446744073709551615 } else c

-- one less is pending for the consumer of this number
abbrev pub with_less : ℕ → Consumer → Consumer
with_less number c = if c.number == number then record c { pending = c.pending - 1 } else c

-- one less is pending for the consumer that had what was replaced
abbrev pub recounted : Option Pending → List Consumer → List Consumer
recounted None consumers = consumers
recounted (Some was) consumers = map (with_less was.consumer) consumers

-- it replaces the pending entry with its id, which is no longer counted for the consumer that had it
pub record IsRegiven (p : Pending) (old new : Group) : Type 0 where
  pub index : ℕ
  pub was : Pending
  pub within : index < length old.pending.items
  pub stood : slice_index_or old.pending.items index was ≡ was
  pub named : was.id ≡ p.id
  pub is : new.pending.items ≡ slice_set old.pending.items index p
  pub counts : new.consumers.items ≡ map (with_more p.consumer) (map (with_less was.consumer) old.consumers.items)

-- it is pending in addition, where its id belongs
pub record IsGivenNew (p : Pending) (old new : Group) : Type 0 where
  pub index : ℕ
  pub within : index ≤ length old.pending.items
  pub place : IsAscending (λ q. q.id) old.pending.items → IsGapFor (λ q. q.id) p.id old.pending.items index
  pub is : new.pending.items ≡ insert old.pending.items index p
  pub counts : new.consumers.items ≡ map (with_more p.consumer) old.consumers.items

-- it is pending, the other pending entries stay, and one more is pending for its consumer
abbrev pub IsGiven : Pending → Group → Group → Type 0
IsGiven p old new = IsRegiven p old new ⊎ IsGivenNew p old new

-- what is pending with other ids than this one, in order
abbrev pub pending_without : EntryId → List Pending → List Pending
pending_without id = filter (λ p. not (is_eq (id_order p.id id)))

-- what was pending with this id is removed, and the others stay; one less is pending for its consumer
pub record IsAcknowledged (id : EntryId) (old new : Group) : Type 0 where
  pub index : ℕ
  pub was : Pending
  pub within : index < length old.pending.items
  pub stood : slice_index_or old.pending.items index was ≡ was
  pub named : was.id ≡ id
  pub others : new.pending.items ≡ remove old.pending.items index
  pub counts : new.consumers.items ≡ map (with_less was.consumer) old.consumers.items
