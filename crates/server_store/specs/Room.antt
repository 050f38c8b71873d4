-- Memory for what will be pending, allocated before a group is changed.
use Rattle.std.specs.Prelude.{◌≤◌, ◌+◌, ◌⊎◌, ℕ, length}
use Rattle.server_store.specs.declared.group.Group.{Group}
use Rattle.server_store.specs.declared.room.Room.{Room}

-- the group has memory for n more pending entries
abbrev pub IsOpenFor : ℕ → Group → Type 0
IsOpenFor more g = length g.pending.slots + more ≤ g.pending.capacity

-- the group has memory for them, or the room has memory for them and for those that are pending in the group
abbrev pub HasPlaces : ℕ → Room → Group → Type 0
HasPlaces more room g = IsOpenFor more g ⊎ (length g.pending.slots + more ≤ room.pending.capacity)
