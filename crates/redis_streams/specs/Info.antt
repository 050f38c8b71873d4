-- The meaning of the replies of XINFO: named fields, each of which is read by its own reading or, if it is missing, has
-- an empty value.
use Rattle.std.specs.Prelude.{ℕ, List, [], ◌∷◌, Option, Some, None, option_map, unwrap_or, codes, if◌then◌else◌}
use Rattle.std.specs.FinMap.{empty}
use Rattle.redis_resp.specs.Then.{◌>>=◌}
use Rattle.redis_resp.specs.Tree.{Tree, array_of_plain}
use Rattle.redis_resp.specs.Text.{text_reading}
use Rattle.redis_resp.specs.Number.{unsigned_reading}
use Rattle.redis_resp.specs.Reading.{is_nil, list_reading, both_read}
use Rattle.redis_resp.specs.Table.{fields_reading, pairs_reading, last_with}
use Rattle.stream_entries.specs.Entry.{Entry, entry_of, empty_entry}

-- the value of each field by its name, if there is one
abbrev pub NamedFields : Type 0
NamedFields = List ℕ → Option Tree

-- the fields of a value: all its pairs have a text as key, and of pairs with one key the last counts
abbrev pub fields_in : Tree → Option NamedFields
fields_in t = option_map (λ pairs name. last_with name pairs) (pairs_reading (λ u. Some u) t)

-- the reading of a field, or the empty value if there is no such field
abbrev pub field_or : {M : Type 0} → M → (Tree → Option M) → Option Tree → Option M
field_or empty_value reading None = Some empty_value
field_or empty_value reading (Some t) = reading t

-- a field that is a text, or the empty text
abbrev pub text_field : NamedFields → List ℕ → Option (List ℕ)
text_field fields name = field_or [] text_reading (fields name)

-- a field that is a number of this number of bits, or 0
abbrev pub number_field : ℕ → NamedFields → List ℕ → Option ℕ
number_field bits fields name = field_or 0 (unsigned_reading bits) (fields name)

-- a number that the server may not know: it is then nil, with no attribute around it
abbrev pub number_or_nil_reading : Tree → Option (Option ℕ)
number_or_nil_reading t = if is_nil t then Some None else option_map Some (unsigned_reading 64 t)

-- a field that is such a number, or None
abbrev pub number_or_nil_field : NamedFields → List ℕ → Option (Option ℕ)
number_or_nil_field fields name = field_or None number_or_nil_reading (fields name)

-- an entry by the items of an array: no items are the empty entry; otherwise the first is the id and the second, if
-- there is one, the fields
abbrev pub entry_of_items : List Tree → Option Entry
entry_of_items [] = Some empty_entry
entry_of_items (id ∷ []) = option_map (λ i. entry_of (i, empty)) (text_reading id)
entry_of_items (id ∷ fields ∷ rest) =
    option_map entry_of (both_read (text_reading id) (fields_reading (λ t. Some t) fields))

-- an entry by the items of an array with no attribute around it; any other value is the empty entry
abbrev pub info_entry_reading : Tree → Option Entry
info_entry_reading t = entry_of_items (unwrap_or (array_of_plain t) [])

-- a field that is an entry, or the empty entry
abbrev pub entry_field : NamedFields → List ℕ → Option Entry
entry_field fields name = field_or empty_entry info_entry_reading (fields name)

-- the reply of XINFO STREAM on a stream
pub record StreamInfo : Type 0 where
  pub last_generated_id : List ℕ
  pub radix_tree_keys : ℕ
  pub radix_tree_nodes : ℕ
  pub groups : ℕ
  pub length : ℕ
  pub first_entry : Entry
  pub last_entry : Entry

-- the empty stream
abbrev pub empty_stream : StreamInfo
empty_stream = record {
  last_generated_id = [];
  radix_tree_keys = 0;
  radix_tree_nodes = 0;
  groups = 0;
  length = 0;
  first_entry = empty_entry;
  last_entry = empty_entry;
}

-- a stream by its fields
abbrev pub stream_of : NamedFields → Option StreamInfo
stream_of fields =
    text_field fields (codes "last-generated-id") >>= λ id.
    number_field 64 fields (codes "radix-tree-keys") >>= λ keys.
    number_field 64 fields (codes "radix-tree-nodes") >>= λ nodes.
    number_field 64 fields (codes "groups") >>= λ groups.
    number_field 64 fields (codes "length") >>= λ length.
    entry_field fields (codes "first-entry") >>= λ first.
    entry_field fields (codes "last-entry") >>= λ last.
    Some
    (record {
      last_generated_id = id;
      radix_tree_keys = keys;
      radix_tree_nodes = nodes;
      groups = groups;
      length = length;
      first_entry = first;
      last_entry = last;
    })

-- a value read as the reply of XINFO STREAM
abbrev pub stream_reading : Tree → Option StreamInfo
stream_reading t = fields_in t >>= stream_of

-- the reply of XINFO STREAM on a stream and its idempotent producers
pub record TrackedStream : Type 0 where
  pub base : StreamInfo
  pub idmp_duration : ℕ
  pub idmp_maxsize : ℕ
  pub pids_tracked : ℕ
  pub iids_tracked : ℕ
  pub iids_added : ℕ
  pub iids_duplicates : ℕ

-- an empty stream and its producers
abbrev pub empty_tracked : TrackedStream
empty_tracked = record {
  base = empty_stream;
  idmp_duration = 0;
  idmp_maxsize = 0;
  pids_tracked = 0;
  iids_tracked = 0;
  iids_added = 0;
  iids_duplicates = 0;
}

-- a stream and its idempotent producers by its fields
abbrev pub tracked_of : NamedFields → Option TrackedStream
tracked_of fields =
    number_field 32 fields (codes "idmp-duration") >>= λ duration.
    number_field 16 fields (codes "idmp-maxsize") >>= λ maxsize.
    number_field 64 fields (codes "pids-tracked") >>= λ producers.
    number_field 64 fields (codes "iids-tracked") >>= λ ids.
    number_field 64 fields (codes "iids-added") >>= λ added.
    number_field 64 fields (codes "iids-duplicates") >>= λ duplicates.
    stream_of fields >>= λ base.
    Some
    (record {
      base = base;
      idmp_duration = duration;
      idmp_maxsize = maxsize;
      pids_tracked = producers;
      iids_tracked = ids;
      iids_added = added;
      iids_duplicates = duplicates;
    })

-- a value read as the reply of XINFO STREAM with its idempotent producers
abbrev pub tracked_reading : Tree → Option TrackedStream
tracked_reading t = fields_in t >>= tracked_of

-- a consumer of a group: its name, its number of pending entries, and how long it has been idle
pub record Consumer : Type 0 where
  pub name : List ℕ
  pub pending : ℕ
  pub idle : ℕ

-- a consumer with no name and nothing pending
abbrev pub empty_consumer : Consumer
empty_consumer = record { name = []; pending = 0; idle = 0 }

-- a consumer by its fields
abbrev pub consumer_of_fields : NamedFields → Option Consumer
consumer_of_fields fields =
    text_field fields (codes "name") >>= λ name.
    number_field 64 fields (codes "pending") >>= λ pending.
    number_field 64 fields (codes "idle") >>= λ idle.
    Some (record { name = name; pending = pending; idle = idle })

-- a value read as a row of the reply of XINFO CONSUMERS
abbrev pub consumer_reading : Tree → Option Consumer
consumer_reading t = fields_in t >>= consumer_of_fields

-- a value read as the reply of XINFO CONSUMERS: a list of rows
abbrev pub consumers_reading : Tree → Option (List Consumer)
consumers_reading = list_reading consumer_reading

-- a group in the reply of XINFO GROUPS
pub record Group : Type 0 where
  pub name : List ℕ
  pub consumers : ℕ
  pub pending : ℕ
  pub last_delivered_id : List ℕ
  pub entries_read : Option ℕ
  pub lag : Option ℕ

-- the empty group
abbrev pub empty_group : Group
empty_group = record { name = []; consumers = 0; pending = 0; last_delivered_id = []; entries_read = None; lag = None }

-- a group by its fields
abbrev pub group_of : NamedFields → Option Group
group_of fields =
    text_field fields (codes "name") >>= λ name.
    number_field 64 fields (codes "consumers") >>= λ consumers.
    number_field 64 fields (codes "pending") >>= λ pending.
    text_field fields (codes "last-delivered-id") >>= λ id.
    number_or_nil_field fields (codes "entries-read") >>= λ read.
    number_or_nil_field fields (codes "lag") >>= λ lag.
    Some
    (record {
      name = name;
      consumers = consumers;
      pending = pending;
      last_delivered_id = id;
      entries_read = read;
      lag = lag;
    })

-- a value read as a row of the reply of XINFO GROUPS
abbrev pub group_reading : Tree → Option Group
group_reading t = fields_in t >>= group_of

-- a value read as the reply of XINFO GROUPS: a list of rows
abbrev pub groups_reading : Tree → Option (List Group)
groups_reading = list_reading group_reading
