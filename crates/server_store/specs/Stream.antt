-- The contents of a stream and a group, and how they change.
use Rattle.std.specs.Prelude.{◌≡◌, ◌≢◌, ◌≤◌, ◌<◌, ◌+◌, ◌-◌, ◌^◌, ℕ, ℤ, pos, ◌+ℤ◌, List, [], ◌∷◌, ◌++◌, length, min, remove, slice_set as set, sum_by, take}
use Rattle.std.specs.Int.{w64, saturate_signed}
use Rattle.std.specs.declared.cmp.Ordering.TheVariants.{Greater}
use Rattle.std.specs.List.{HoldsAt}
use Rattle.server_store.specs.Order.{id_order}
use Rattle.server_store.specs.declared.entry_id.EntryId.{EntryId}
use Rattle.server_store.specs.declared.group.Group.{Group}
use Rattle.server_store.specs.declared.stream.Entry.{Entry}
use Rattle.server_store.specs.declared.stream.Node.{Node}
use Rattle.server_store.specs.declared.stream.Stream.{Stream}

-- a stream without the capacity of its lists
pub record Seen : Type 0 where
  pub key : List ℕ
  pub entries : List Entry
  pub nodes : List Node
  pub last_id : EntryId
  pub max_deleted_id : EntryId
  pub entries_added : ℤ
  pub groups : List Group

-- the contents of a stream
abbrev pub seen_stream : Stream → Seen
seen_stream s = record {
  key = s.key.items;
  entries = s.entries.items;
  nodes = s.nodes.items;
  last_id = s.last_id;
  max_deleted_id = s.max_deleted_id;
  entries_added = s.entries_added;
  groups = s.groups.items;
}

-- this entry is the newest, and the others stay
pub record IsLonger (entry : Entry) (old new : Stream) : Type 0 where
  pub entries : new.entries.items ≡ old.entries.items ++ entry ∷ []
  pub last_id : new.last_id ≡ entry.id
  pub added : new.entries_added ≡ saturate_signed w64 (old.entries_added +ℤ pos 1)
  pub others : new ≡ record old {
    entries = new.entries;
    nodes = new.nodes;
    gone = new.gone;
    last_id = new.last_id;
    entries_added = new.entries_added;
  }

-- a node that begins with the entry of this id
abbrev pub new_node : EntryId → Node
new_node id = record { live = 1; appended = 1; last = id }

-- the node with one entry more, of this id
abbrev pub grown : EntryId → Node → Node
grown id node = record {
  live = min (node.live + 1) (2 ^ 64 - 1);
  appended = min (node.appended + 1) (2 ^ 64 - 1);
  last = id;
}

-- there is a last node, and it has room for another entry: fewer than `most` were appended to it, or `most` is 0
pub record IsLastOpen (most : ℕ) (nodes : List Node) : Type 0 where
  pub some : 0 < length nodes
  pub room : most ≢ 0 → HoldsAt (λ node. node.appended < most) nodes (length nodes - 1)

-- the last node has one entry more, of this id
pub record IsLastGrown (id : EntryId) (old new : List Node) : Type 0 where
  pub node : Node
  pub named : HoldsAt (λ n. n ≡ node) old (length old - 1)
  pub more : new ≡ set old (length old - 1) (grown id node)

-- one entry with this id is removed, and the others stay
pub record IsWithoutOne (id : EntryId) (old new : List Entry) : Type 0 where
  pub index : ℕ
  pub within : index < length old
  pub named : HoldsAt (λ entry. entry.id ≡ id) old index
  pub others : new ≡ remove old index

-- the id of the first one, 0-0 if there is none
abbrev pub first_id_of : List Entry → EntryId
first_id_of [] = record { milliseconds = 0; sequence = 0 }
first_id_of (entry ∷ entries) = entry.id

-- the largest deleted id is not before this one, and not before the id of the first entry
pub record IsTombstoneFrom (id : EntryId) (s : Stream) : Type 0 where
  pub some : s.entries.items ≢ []
  pub deleted : s.max_deleted_id ≢ record { milliseconds = 0; sequence = 0 }
  pub first : id_order (first_id_of s.entries.items) s.max_deleted_id ≢ Greater
  pub behind : id_order id s.max_deleted_id ≢ Greater

-- the entry at this index is in the node at this index
abbrev pub IsWithin : ℕ → List Node → ℕ → Type 0
IsWithin index nodes place = (sum_by (λ node. node.live) (take place nodes) ≤ index)
    × (index < sum_by (λ node. node.live) (take (place + 1) nodes))

-- the node at this place has one entry less, and an empty one is removed
pub record IsOneLess (place : ℕ) (old new : List Node) : Type 0 where
  pub node : Node
  pub named : HoldsAt (λ n. n ≡ node) old place
  pub less : 1 < node.live → new ≡ set old place (record node { live = node.live - 1 })
  pub last : node.live ≤ 1 → new ≡ remove old place

-- the node of the entry at this index has one entry less
pub record IsLessAt (index : ℕ) (old new : List Node) : Type 0 where
  pub place : ℕ
  pub within : IsWithin index old place
  pub less : IsOneLess place old new

-- The node of the entry with this id has one entry less, if the nodes count the entries.
pub record IsLessInOne (id : EntryId) (old new : Stream) : Type 0 where
  pub index : ℕ
  pub named : HoldsAt (λ entry. entry.id ≡ id) old.entries.items index
  pub nodes : index < sum_by (λ node. node.live) old.nodes.items → IsLessAt index old.nodes.items new.nodes.items
