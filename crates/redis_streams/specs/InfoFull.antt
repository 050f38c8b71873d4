-- The meaning of the reply of XINFO STREAM FULL: a stream with its entries, its groups and their consumers.
use Rattle.std.specs.Prelude.{ℕ, ℤ, List, [], ◌∷◌, Option, Some, None, option_map, option_and_then, codes}
use Rattle.std.specs.Prelude.{if◌then◌else◌}
use Rattle.redis_resp.specs.Then.{◌>>=◌}
use Rattle.redis_resp.specs.Tree.{Tree}
use Rattle.redis_resp.specs.Text.{text_reading}
use Rattle.redis_resp.specs.Number.{unsigned_reading, signed_reading}
use Rattle.redis_resp.specs.Reading.{is_nil, list_reading, two_reading, three_reading, four_reading}
use Rattle.redis_resp.specs.Table.{pairs_reading}
use Rattle.redis_streams.specs.Info.{NamedFields, fields_in, field_or, text_field, number_field, number_or_nil_field}

-- a field that is a list of such items, or the empty list
abbrev pub list_field : {M : Type 0} → (Tree → Option M) → NamedFields → List ℕ → Option (List M)
list_field reading fields name = field_or [] (list_reading reading) (fields name)

-- an entry: its id, and its fields in the order in which they were added, repeated names included
pub record FullEntry : Type 0 where
  pub id : List ℕ
  pub fields : List (List ℕ × Tree)

-- an entry with no id and no fields
abbrev pub empty_full_entry : FullEntry
empty_full_entry = record { id = []; fields = [] }

-- an entry by its two parts
abbrev pub full_entry_of : List ℕ × List (List ℕ × Tree) → FullEntry
full_entry_of parts = record { id = parts.0; fields = parts.1 }

-- an entry: an array of exactly its id and the pairs of its fields
abbrev pub full_entry_reading : Tree → Option FullEntry
full_entry_reading t = option_map full_entry_of (two_reading text_reading (pairs_reading (λ u. Some u)) t)

-- a pending entry of a group: its id, its consumer, the time of its last delivery, and its number of deliveries
pub record FullPending : Type 0 where
  pub id : List ℕ
  pub consumer : List ℕ
  pub delivery_time : ℕ
  pub times_delivered : ℕ

-- the empty pending entry
abbrev pub empty_full_pending : FullPending
empty_full_pending = record { id = []; consumer = []; delivery_time = 0; times_delivered = 0 }

-- a pending entry by its four parts
abbrev pub full_pending_of : List ℕ × List ℕ × ℕ × ℕ → FullPending
full_pending_of parts = record { id = parts.0; consumer = parts.1; delivery_time = parts.2; times_delivered = parts.3 }

-- a pending entry of a group: an array of exactly its id, its consumer and two numbers
abbrev pub full_pending_reading : Tree → Option FullPending
full_pending_reading t = option_map full_pending_of
    (four_reading text_reading text_reading (unsigned_reading 64) (unsigned_reading 64) t)

-- a pending entry of a consumer: the same without the consumer
pub record OwnPending : Type 0 where
  pub id : List ℕ
  pub delivery_time : ℕ
  pub times_delivered : ℕ

-- the empty pending entry of a consumer
abbrev pub empty_own_pending : OwnPending
empty_own_pending = record { id = []; delivery_time = 0; times_delivered = 0 }

-- a consumer's pending entry by its three parts
abbrev pub own_pending_of : List ℕ × ℕ × ℕ → OwnPending
own_pending_of parts = record { id = parts.0; delivery_time = parts.1; times_delivered = parts.2 }

-- a pending entry of a consumer: an array of exactly its id and two numbers
abbrev pub own_pending_reading : Tree → Option OwnPending
own_pending_reading t = option_map own_pending_of
    (three_reading text_reading (unsigned_reading 64) (unsigned_reading 64) t)

-- a time that the server may not report, with its sign: it is then nil, with no attribute around it
abbrev pub time_or_nil_reading : Tree → Option (Option ℤ)
time_or_nil_reading t = if is_nil t then Some None else option_map Some (signed_reading 63 t)

-- a field that is such a time, or None
abbrev pub time_or_nil_field : NamedFields → List ℕ → Option (Option ℤ)
time_or_nil_field fields name = field_or None time_or_nil_reading (fields name)

-- a consumer: its name, when it was last seen and last active, its number of pending entries, and those entries
pub record FullConsumer : Type 0 where
  pub name : List ℕ
  pub seen_time : ℕ
  pub active_time : Option ℤ
  pub pending_count : ℕ
  pub pending : List OwnPending

-- the empty consumer
abbrev pub empty_full_consumer : FullConsumer
empty_full_consumer = record { name = []; seen_time = 0; active_time = None; pending_count = 0; pending = [] }

-- a consumer by its fields
abbrev pub full_consumer_of : NamedFields → Option FullConsumer
full_consumer_of fields =
    text_field fields (codes "name") >>= λ name.
    number_field 64 fields (codes "seen-time") >>= λ seen.
    time_or_nil_field fields (codes "active-time") >>= λ active.
    number_field 64 fields (codes "pel-count") >>= λ count.
    list_field own_pending_reading fields (codes "pending") >>= λ pending.
    Some (record { name = name; seen_time = seen; active_time = active; pending_count = count; pending = pending })

-- a value read as a consumer in the reply of XINFO STREAM FULL
abbrev pub full_consumer_reading : Tree → Option FullConsumer
full_consumer_reading t = fields_in t >>= full_consumer_of

-- a group: its last delivered id and counts, its number of pending entries, those entries, and its consumers
pub record FullGroup : Type 0 where
  pub name : List ℕ
  pub last_delivered_id : List ℕ
  pub entries_read : Option ℕ
  pub lag : Option ℕ
  pub pending_count : ℕ
  pub pending : List FullPending
  pub consumers : List FullConsumer

-- the empty group
abbrev pub empty_full_group : FullGroup
empty_full_group = record {
  name = [];
  last_delivered_id = [];
  entries_read = None;
  lag = None;
  pending_count = 0;
  pending = [];
  consumers = [];
}

-- a group by its fields
abbrev pub full_group_of : NamedFields → Option FullGroup
full_group_of fields =
    text_field fields (codes "name") >>= λ name.
    text_field fields (codes "last-delivered-id") >>= λ id.
    number_or_nil_field fields (codes "entries-read") >>= λ read.
    number_or_nil_field fields (codes "lag") >>= λ lag.
    number_field 64 fields (codes "pel-count") >>= λ count.
    list_field full_pending_reading fields (codes "pending") >>= λ pending.
    list_field full_consumer_reading fields (codes "consumers") >>= λ consumers.
    Some
    (record {
      name = name;
      last_delivered_id = id;
      entries_read = read;
      lag = lag;
      pending_count = count;
      pending = pending;
      consumers = consumers;
    })

-- a value read as a group in the reply of XINFO STREAM FULL
abbrev pub full_group_reading : Tree → Option FullGroup
full_group_reading t = fields_in t >>= full_group_of

-- the reply of XINFO STREAM FULL on a stream
pub record FullStream : Type 0 where
  pub length : ℕ
  pub radix_tree_keys : ℕ
  pub radix_tree_nodes : ℕ
  pub last_generated_id : List ℕ
  pub max_deleted_entry_id : List ℕ
  pub entries_added : Option ℕ
  pub recorded_first_entry_id : List ℕ
  pub entries : List FullEntry
  pub groups : List FullGroup

-- the empty stream
abbrev pub empty_full_stream : FullStream
empty_full_stream = record {
  length = 0;
  radix_tree_keys = 0;
  radix_tree_nodes = 0;
  last_generated_id = [];
  max_deleted_entry_id = [];
  entries_added = None;
  recorded_first_entry_id = [];
  entries = [];
  groups = [];
}

-- a stream by its fields
abbrev pub full_stream_of : NamedFields → Option FullStream
full_stream_of fields =
    number_field 64 fields (codes "length") >>= λ length.
    number_field 64 fields (codes "radix-tree-keys") >>= λ keys.
    number_field 64 fields (codes "radix-tree-nodes") >>= λ nodes.
    text_field fields (codes "last-generated-id") >>= λ last.
    text_field fields (codes "max-deleted-entry-id") >>= λ deleted.
    number_or_nil_field fields (codes "entries-added") >>= λ added.
    text_field fields (codes "recorded-first-entry-id") >>= λ first.
    list_field full_entry_reading fields (codes "entries") >>= λ entries.
    list_field full_group_reading fields (codes "groups") >>= λ groups.
    Some (record {
      length = length;
      radix_tree_keys = keys;
      radix_tree_nodes = nodes;
      last_generated_id = last;
      max_deleted_entry_id = deleted;
      entries_added = added;
      recorded_first_entry_id = first;
      entries = entries;
      groups = groups;
    })

-- a value read as the reply of XINFO STREAM FULL
abbrev pub full_reading : Tree → Option FullStream
full_reading t = fields_in t >>= full_stream_of
