-- What changes of a stream and of a group preserve.
use Rattle.std.specs.Prelude.{◌≡◌, ◌<◌, ◌++◌, ◌∷◌, [], ℕ, List, length, drop, slice_index_or}
use Rattle.std.specs.declared.cmp.Ordering.TheVariants.{Less}
use Rattle.server_store.specs.Order.{id_order, IsAscending}
use Rattle.server_store.specs.Pending.{IsAcknowledged, IsGiven}
use Rattle.server_store.specs.Stream.{IsWithoutOne}
use Rattle.server_store.specs.declared.entry_id.EntryId.{EntryId}
use Rattle.server_store.specs.declared.group.Group.{Group}
use Rattle.server_store.specs.declared.group.Pending.{Pending}
use Rattle.server_store.specs.declared.stream.Entry.{Entry}

-- the ids of what is pending ascend
abbrev pub IsInOrder : Group → Type 0
IsInOrder group = IsAscending (λ p. p.id) group.pending.items

-- the ids of the entries ascend
abbrev pub AreInOrder : List Entry → Type 0
AreInOrder entries = IsAscending (λ entry. entry.id) entries

-- what is pending stays in order if an entry is delivered or acknowledged
pub record PendingStaysInOrder : Type 0 where
  pub given : (p : Pending) (old new : Group) → IsGiven p old new → IsInOrder old → IsInOrder new
  pub acknowledged : (id : EntryId) (old new : Group) → IsAcknowledged id old new → IsInOrder old → IsInOrder new

-- the entries stay in order if one with a larger id is appended, if one is removed, and if the first ones are trimmed
pub record EntriesStayInOrder : Type 0 where
  pub appended : (entry : Entry) (old : List Entry)
      → ((k : ℕ) (d : Entry) → k < length old → id_order (slice_index_or old k d).id entry.id ≡ Less)
      → AreInOrder old → AreInOrder (old ++ entry ∷ [])
  pub removed : (id : EntryId) (old new : List Entry) → IsWithoutOne id old new → AreInOrder old → AreInOrder new
  pub trimmed : (count : ℕ) (old : List Entry) → AreInOrder old → AreInOrder (drop count old)
