-- One stream among the others, and one group among those of a stream.
use Rattle.std.specs.Prelude.{◌≡◌, ◌≤◌, ◌<◌, ℕ, List, [], length, slice_index_or, slice_set, insert}
use Rattle.server_store.specs.declared.group.Group.{Group}
use Rattle.server_store.specs.declared.stream.Stream.{Stream}

-- the stream of this key is changed so, and the others stay
pub record IsChangedAt (key : List ℕ) (How : Stream → Stream → Type 0) (old new : List Stream) : Type 0 where
  pub index : ℕ
  pub was : Stream
  pub is : Stream
  pub within : index < length old
  pub stood : slice_index_or old index was ≡ was
  pub named : was.key.items ≡ key
  pub how : How was is
  pub changed : new ≡ slice_set old index is

-- a new stream of this key is among the others, as this makes it of an empty one
pub record IsMade (key : List ℕ) (How : Stream → Stream → Type 0) (old new : List Stream) : Type 0 where
  pub index : ℕ
  pub empty : Stream
  pub is : Stream
  pub within : index ≤ length old
  pub named : empty.key.items ≡ key
  pub no_entries : empty.entries.items ≡ []
  pub no_groups : empty.groups.items ≡ []
  pub how : How empty is
  pub made : new ≡ insert old index is

-- the group of this name is changed so, and the others and the entries stay
pub record IsGroupChangedAt (name : List ℕ) (How : Group → Group → Type 0) (old new : Stream) : Type 0 where
  pub index : ℕ
  pub was : Group
  pub is : Group
  pub within : index < length old.groups.items
  pub stood : slice_index_or old.groups.items index was ≡ was
  pub named : was.name.items ≡ name
  pub how : How was is
  pub groups : new.groups.items ≡ slice_set old.groups.items index is
  pub others : new ≡ record old { groups = new.groups }
