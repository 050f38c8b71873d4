-- The world in which a group begins.
use Rattle.std.specs.Prelude.{◌≡◌, ◌<◌, ℤ, ℕ, List, [], Option, length, map, slice_index_or}
use Rattle.std.specs.Global.{Vec}
use Rattle.std.specs.List.{AllByRecursion}
use Rattle.model_server.specs.Group.World.{World, empty_world}
use Rattle.server_store.specs.Laws.{AreInOrder as EntriesAscend}
use Rattle.server_store.specs.Stream.{Seen, seen_stream}
use Rattle.server_store.specs.declared.entry_id.EntryId.{EntryId}
use Rattle.server_store.specs.declared.stream.Entry.{Entry}
use Rattle.server_store.specs.declared.stream.Stream.{Stream}
use Rattle.server_commands.specs.Creating.{IsXgroupCreate}
use Rattle.server_commands.specs.Delivering.{entries_behind}
use Rattle.server_commands.specs.Model.{Fields, IsModelIn, IsUpTo, as_entry, entries_until, numbers}
use Rattle.server_commands.specs.Places.{AreInOrder}

-- A group begins at this id, of a stream with this last id and these entries. It has seen those up to its id, and
-- nothing is pending or deleted.
abbrev pub world_from : EntryId → EntryId → List Entry → World Fields
world_from begin last_id entries = record empty_world {
  seen = map as_entry (entries_until begin entries);
  fresh = map as_entry (entries_behind begin entries);
  last = numbers last_id;
}

-- the entries ascend, up to the last id
pub record EndsAt (last_id : EntryId) (entries : List Entry) : Type 0 where
  pub ascend : EntriesAscend entries
  pub below : AllByRecursion (λ entry. IsUpTo last_id entry.id) entries

-- streams in the order of their keys, of which one is this one, with groups in the order of their names
pub record IsAmong (stream : Stream) (streams : List Seen) : Type 0 where
  pub index : ℕ
  pub keys : AreInOrder (map (λ s. s.key) streams)
  pub within : index < length streams
  pub at : slice_index_or streams index (seen_stream stream) ≡ seen_stream stream
  pub names : AreInOrder (map (λ g. g.name.items) stream.groups.items)

-- XGROUP CREATE, at an id up to the last one, makes a group that is that of such a world.
abbrev pub XgroupCreateBeginsAWorld : Type 0
XgroupCreateBeginsAWorld = (words : List (Vec ℕ)) (name : List ℕ) (entries_read : Option ℤ) (old new : Stream)
    (does : IsXgroupCreate words name entries_read old new) (streams : List Seen) → EndsAt old.last_id old.entries.items
    → IsUpTo old.last_id does.made.is.last_id → IsAmong new streams
    → IsModelIn new.key.items name streams (world_from does.made.is.last_id old.last_id old.entries.items)

-- The entries of a new stream do so, since there are none.
abbrev pub NoEntriesEnd : Type 0
NoEntriesEnd = (last_id : EntryId) → EndsAt last_id []
