-- The meaning of the records of XINFO: the mathematical ones, whatever the capacity of their texts and lists.
use Rattle.std.specs.Prelude.{List, map, option_map, String, string_bytes}
use Rattle.std.specs.declared.alloc.Global.{Global}
use Rattle.std.specs.HashMap.{HashMap, get_by_text}
use Rattle.redis_resp.specs.Tree.{Tree}
use Rattle.stream_entries.specs.EntryMeaning.{entry_meaning}
use Rattle.redis_streams.specs.Info.{NamedFields, StreamInfo, TrackedStream, Consumer, Group}
use Rattle.redis_streams.specs.declared.info.consumer.StreamInfoConsumer.{StreamInfoConsumer}
use Rattle.redis_streams.specs.declared.info.stream.StreamInfoStreamReply.{StreamInfoStreamReply}
use Rattle.redis_streams.specs.declared.info.idempotency.StreamInfoStreamReplyWithIdempotency.{StreamInfoStreamReplyWithIdempotency}
use Rattle.redis_streams.specs.declared.info.consumers.StreamInfoConsumersReply.{StreamInfoConsumersReply}
use Rattle.redis_streams.specs.declared.info.groups.StreamInfoGroup.{StreamInfoGroup}
use Rattle.redis_streams.specs.declared.info.groups.StreamInfoGroupsReply.{StreamInfoGroupsReply}

-- the fields that a map holds, its values as trees
unfoldable pub fields_by_name : {V S : Type 0} → (V → Tree) → HashMap (String Global) V S → NamedFields
fields_by_name seen m name = option_map seen (get_by_text m name)

-- the stream of a record
abbrev pub stream_info_meaning : StreamInfoStreamReply → StreamInfo
stream_info_meaning r = record {
  last_generated_id = string_bytes r.last_generated_id;
  radix_tree_keys = r.radix_tree_keys;
  radix_tree_nodes = r.radix_tree_nodes;
  groups = r.groups;
  length = r.length;
  first_entry = entry_meaning r.first_entry;
  last_entry = entry_meaning r.last_entry;
}

-- the stream and its idempotent producers of a record
abbrev pub tracked_meaning : StreamInfoStreamReplyWithIdempotency → TrackedStream
tracked_meaning r = record {
  base = stream_info_meaning r.base;
  idmp_duration = r.idmp_duration;
  idmp_maxsize = r.idmp_maxsize;
  pids_tracked = r.pids_tracked;
  iids_tracked = r.iids_tracked;
  iids_added = r.iids_added;
  iids_duplicates = r.iids_duplicates;
}

-- the consumer of a record
abbrev pub consumer_meaning : StreamInfoConsumer → Consumer
consumer_meaning c = record { name = string_bytes c.name; pending = c.pending; idle = c.idle }

-- the consumers of a reply
abbrev pub consumers_meaning : StreamInfoConsumersReply → List Consumer
consumers_meaning r = map consumer_meaning r.consumers.items

-- the group of a record
abbrev pub group_meaning : StreamInfoGroup → Group
group_meaning g = record {
  name = string_bytes g.name;
  consumers = g.consumers;
  pending = g.pending;
  last_delivered_id = string_bytes g.last_delivered_id;
  entries_read = g.entries_read;
  lag = g.lag;
}

-- the groups of a reply
abbrev pub groups_meaning : StreamInfoGroupsReply → List Group
groups_meaning r = map group_meaning r.groups.items
