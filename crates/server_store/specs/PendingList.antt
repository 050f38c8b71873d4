-- What is pending, in slots that stay for a while after their entry is removed.
use Rattle.std.specs.Prelude.{◌≡◌, ◌≤◌, ◌<◌, ℕ, true, List, [], ◌∷◌, cond, drop, filter, length, Option, Some, None}
use Rattle.std.specs.Prelude.{slice_index_or, slice_set, insert, remove}
use Rattle.std.specs.Ordering.{is_lt}
use Rattle.server_store.specs.Order.{id_order, IsAscending, IsGapFor, IsSplitBefore}
use Rattle.server_store.specs.declared.entry_id.EntryId.{EntryId}
use Rattle.server_store.specs.declared.group.Pending.{Pending}
use Rattle.server_store.specs.declared.pending_list.Slot.{Slot}

-- what is pending in the slots, in order: those whose entry was removed are left out
abbrev pub live : List Slot → List Pending
live [] = []
live (slot ∷ slots) = cond slot.is_live (slot.held ∷ live slots) (live slots)

-- what is pending from this slot on
abbrev pub live_from : List Slot → ℕ → List Pending
live_from slots at = live (drop at slots)

-- the slot of a pending entry
abbrev pub slot_of : Pending → Slot
slot_of p = record { held = p; is_live = true }

-- what is pending, the slots, and for how many slots there is memory
pub record PendingSlots : Type 0 where
  pub items : List Pending
  pub slots : List Slot
  pub capacity : ℕ

-- the ids of all slots ascend, and this is the number of the live ones
pub record IsSound (slots : List Slot) (count : ℕ) : Type 0 where
  pub ascend : IsAscending (λ slot. slot.held.id) slots
  pub counted : count ≡ length (live slots)

-- what is pending after this id, in order
abbrev pub pending_behind : EntryId → List Pending → List Pending
pending_behind id = filter (λ p. is_lt (id_order id p.id))

-- from this slot on, exactly those are pending that have at least this id
pub record BeginsAt (id : EntryId) (list : PendingSlots) (slot : ℕ) : Type 0 where
  pub index : ℕ
  pub within : index ≤ length list.items
  pub split : IsSplitBefore (λ p. p.id) id list.items index
  pub rest : live_from list.slots slot ≡ drop index list.items

-- it replaces the one that had its id
pub record IsReplaced (p was : Pending) (old new : List Pending) : Type 0 where
  pub index : ℕ
  pub within : index < length old
  pub stood : slice_index_or old index was ≡ was
  pub named : was.id ≡ p.id
  pub is : new ≡ slice_set old index p

-- it is added in the gap for its id
pub record IsInserted (p : Pending) (old new : List Pending) : Type 0 where
  pub index : ℕ
  pub within : index ≤ length old
  pub place : IsGapFor (λ q. q.id) p.id old index
  pub is : new ≡ insert old index p

-- it replaces the one that had its id, or is added if none had
abbrev pub IsPut : Pending → List Pending → List Pending → Option Pending → Type 0
IsPut p old new (Some was) = IsReplaced p was old new
IsPut p old new None = IsInserted p old new

-- it is removed, and the others stay
pub record IsTaken (was : Pending) (old new : List Pending) : Type 0 where
  pub index : ℕ
  pub within : index < length old
  pub stood : slice_index_or old index was ≡ was
  pub others : new ≡ remove old index
