-- The meaning of the records of XINFO STREAM FULL: the mathematical ones, whatever the capacity of their texts and
-- lists.
use Rattle.std.specs.Prelude.{List, map, string_bytes}
use Rattle.redis_resp.specs.Table.{entries_meaning}
use Rattle.redis_resp.specs.Value.{tree}
use Rattle.redis_streams.specs.InfoFull.{FullEntry, FullPending, OwnPending, FullConsumer, FullGroup, FullStream}
use Rattle.redis_streams.specs.declared.info.full.entry.StreamInfoFullEntry.{StreamInfoFullEntry}
use Rattle.redis_streams.specs.declared.info.full.pending.StreamInfoFullPending.{StreamInfoFullPending}
use Rattle.redis_streams.specs.declared.info.full.pending.StreamInfoConsumerPending.{StreamInfoConsumerPending}
use Rattle.redis_streams.specs.declared.info.full.consumer.StreamInfoFullConsumer.{StreamInfoFullConsumer}
use Rattle.redis_streams.specs.declared.info.full.group.StreamInfoFullGroup.{StreamInfoFullGroup}
use Rattle.redis_streams.specs.declared.info.full.stream.StreamInfoFullReply.{StreamInfoFullReply}

-- the entry of a record
abbrev pub full_entry_meaning : StreamInfoFullEntry → FullEntry
full_entry_meaning e = record { id = string_bytes e.id; fields = entries_meaning tree e.fields.items }

-- the pending entry of a record
abbrev pub full_pending_meaning : StreamInfoFullPending → FullPending
full_pending_meaning p = record {
  id = string_bytes p.id;
  consumer = string_bytes p.consumer;
  delivery_time = p.delivery_time;
  times_delivered = p.times_delivered;
}

-- the pending entry of a consumer of a record
abbrev pub own_pending_meaning : StreamInfoConsumerPending → OwnPending
own_pending_meaning p =
    record { id = string_bytes p.id; delivery_time = p.delivery_time; times_delivered = p.times_delivered }

-- the consumer of a record
abbrev pub full_consumer_meaning : StreamInfoFullConsumer → FullConsumer
full_consumer_meaning c = record {
  name = string_bytes c.name;
  seen_time = c.seen_time;
  active_time = c.active_time;
  pending_count = c.pending_count;
  pending = map own_pending_meaning c.pending.items;
}

-- the group of a record
abbrev pub full_group_meaning : StreamInfoFullGroup → FullGroup
full_group_meaning g = record {
  name = string_bytes g.name;
  last_delivered_id = string_bytes g.last_delivered_id;
  entries_read = g.entries_read;
  lag = g.lag;
  pending_count = g.pending_count;
  pending = map full_pending_meaning g.pending.items;
  consumers = map full_consumer_meaning g.consumers.items;
}

-- the stream of a record
abbrev pub full_meaning : StreamInfoFullReply → FullStream
full_meaning r = record {
  length = r.length;
  radix_tree_keys = r.radix_tree_keys;
  radix_tree_nodes = r.radix_tree_nodes;
  last_generated_id = string_bytes r.last_generated_id;
  max_deleted_entry_id = string_bytes r.max_deleted_entry_id;
  entries_added = r.entries_added;
  recorded_first_entry_id = string_bytes r.recorded_first_entry_id;
  entries = map full_entry_meaning r.entries.items;
  groups = map full_group_meaning r.groups.items;
}
