-- Streams by their keys, and groups by their names.
use Rattle.std.specs.Prelude.{◌≡◌, ◌≢◌, ◌<◌, ℕ, List, length, map, slice_index_or}
use Rattle.std.specs.Cmp.Lexicographic.{slice_cmp}
use Rattle.std.specs.Ordering.{nat_cmp}
use Rattle.std.specs.declared.cmp.Ordering.TheVariants.{Less}
use Rattle.server_store.specs.declared.group.Group.{Group}
use Rattle.server_store.specs.declared.stream.Stream.{Stream}

-- each name is before those that follow
abbrev pub AreInOrder : List (List ℕ) → Type 0
AreInOrder names = (i j : ℕ) (d : List ℕ) → i < j → j < length names
    → slice_cmp nat_cmp (slice_index_or names i d) (slice_index_or names j d) ≡ Less

-- the name is none of these
abbrev pub IsMissing : List ℕ → List (List ℕ) → Type 0
IsMissing name names = (k : ℕ) (d : List ℕ) → k < length names → slice_index_or names k d ≢ name

-- the keys of streams
abbrev pub keys_of : List Stream → List (List ℕ)
keys_of streams = map (λ stream. stream.key.items) streams

-- the names of the groups of a stream
abbrev pub group_names : Stream → List (List ℕ)
group_names stream = map (λ group. group.name.items) stream.groups.items

-- the names of the consumers of a group
abbrev pub consumer_names : Group → List (List ℕ)
consumer_names group = map (λ consumer. consumer.name.items) group.consumers.items

-- no stream of this key has a group of this name, if the keys and the names are in order
abbrev pub HasNoGroup : List ℕ → List ℕ → List Stream → Type 0
HasNoGroup key name streams = (k : ℕ) (stream : Stream) → AreInOrder (keys_of streams) → k < length streams
    → slice_index_or streams k stream ≡ stream → stream.key.items ≡ key → AreInOrder (group_names stream)
    → IsMissing name (group_names stream)
