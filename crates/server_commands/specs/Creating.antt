-- What XGROUP CREATE does.
use Rattle.std.specs.Prelude.{◌≡◌, ◌≢◌, ◌≤◌, ℕ, ℤ, List, [], Option, codes, insert, length}
use Rattle.std.specs.Global.{Vec}
use Rattle.std.specs.List.{HoldsAt}
use Rattle.server_store.specs.declared.entry_id.EntryId.{EntryId}
use Rattle.server_store.specs.declared.group.Group.{Group}
use Rattle.server_store.specs.declared.stream.Stream.{Stream}
use Rattle.server_commands.specs.declared.commands.group.Start.{Start}
use Rattle.server_commands.specs.declared.commands.group.Start.TheVariants.{Last, At}

-- the group begins at the id in this word: `$` is the last id of the stream, and any other word is an id
abbrev pub IsStartIn : Start → Vec ℕ → Type 0
IsStartIn Last word = word.items ≡ codes "$"
IsStartIn (At id) word = word.items ≢ codes "$"

-- the id at which a group begins, of a stream with this last id
abbrev pub start_id : Start → EntryId → EntryId
start_id Last last_id = last_id
start_id (At id) last_id = id

-- a group of this name is inserted among the others, which stay: it begins at this id, and has no pending entries
pub record IsGroupMade (start : Start) (name : List ℕ) (entries_read : Option ℤ) (old new : Stream) : Type 0 where
  pub index : ℕ
  pub is : Group
  pub within : index ≤ length old.groups.items
  pub named : is.name.items ≡ name
  pub begins : is.last_id ≡ start_id start old.last_id
  pub counts : is.entries_read ≡ entries_read
  pub no_pending : is.pending.items ≡ []
  pub no_consumers : is.consumers.items ≡ []
  pub groups : new.groups.items ≡ insert old.groups.items index is
  pub others : new ≡ record old { groups = new.groups }

-- the group begins at the id in the first of the words
pub record IsXgroupCreate (words : List (Vec ℕ)) (name : List ℕ) (entries_read : Option ℤ) (old new : Stream) : Type 0 where
  pub start : Start
  pub worded : HoldsAt (IsStartIn start) words 0
  pub made : IsGroupMade start name entries_read old new
