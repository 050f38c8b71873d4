-- The consumers of a group, which are seen, created and removed.
use Rattle.std.specs.Prelude.{◌≡◌, ◌≤◌, ◌<◌, ◌+◌, ◌==◌, ◌⊎◌, ℕ, List, not, length, filter, min}
use Rattle.std.specs.Prelude.{slice_index_or, slice_set, insert, remove, vec_capacity, vec_len}
use Rattle.server_store.specs.declared.group.Consumer.{Consumer}
use Rattle.server_store.specs.declared.group.Group.{Group}
use Rattle.server_store.specs.declared.group.Pending.{Pending}
use Rattle.server_store.specs.declared.room.Room.{Room}

-- this consumer, which has this name, is at the index
pub record IsThere (name : List ℕ) (index : ℕ) (c : Consumer) (g : Group) : Type 0 where
  pub within : index < length g.consumers.items
  pub stood : slice_index_or g.consumers.items index c ≡ c
  pub named : c.name.items ≡ name

-- the consumer was there and has this number: it was seen at this moment, and the others stay
pub record IsSeenAgain (name : List ℕ) (now number : ℕ) (old new : Group) : Type 0 where
  pub index : ℕ
  pub was : Consumer
  pub there : IsThere name index was old
  pub numbered : number ≡ was.number
  pub consumers : new.consumers.items ≡ slice_set old.consumers.items index (record was { seen_at = now })
  pub next : new.next_number ≡ old.next_number

-- the consumer is new, and the others stay: it has the number that no other had
pub record IsNewcomer (name : List ℕ) (now number : ℕ) (old new : Group) : Type 0 where
  pub index : ℕ
  pub is : Consumer
  pub within : index ≤ length old.consumers.items
  pub consumers : new.consumers.items ≡ insert old.consumers.items index is
  pub named : is.name.items ≡ name
  pub numbered : (number ≡ old.next_number) × (is.number ≡ number)
  pub seen : is.seen_at ≡ now
  pub pending : is.pending ≡ 0
  pub next : new.next_number ≡ min (number + 1) 18446744073709551615

-- the consumer of this name has this number, and was seen at this moment
abbrev pub IsSeen : List ℕ → ℕ → ℕ → Group → Group → Type 0
IsSeen name now number old new = IsSeenAgain name now number old new ⊎ IsNewcomer name now number old new

-- the group has memory for one more consumer, or the room has it for one more than the group has
abbrev pub HasRoom : Room → Group → Type 0
HasRoom room g = (vec_len g.consumers < vec_capacity g.consumers) ⊎ (vec_len g.consumers < vec_capacity room.consumers)

-- what is pending for others than the consumer of this number, in order
abbrev pub pending_for_others : ℕ → List Pending → List Pending
pending_for_others number = filter (λ p. not (p.consumer == number))

-- the consumer is removed with its `count` pending entries; the others stay
pub record IsTakenOut (name : List ℕ) (count : ℕ) (old new : Group) : Type 0 where
  pub index : ℕ
  pub was : Consumer
  pub there : IsThere name index was old
  pub consumers : new.consumers.items ≡ remove old.consumers.items index
  pub pending : new.pending.items ≡ pending_for_others was.number old.pending.items
  pub counted : count ≡ was.pending

-- the consumer of this name, if it was there, is removed
abbrev pub IsRemoved : List ℕ → ℕ → Group → Group → Type 0
IsRemoved name count old new = IsTakenOut name count old new ⊎ ((new ≡ old) × (count ≡ 0))
