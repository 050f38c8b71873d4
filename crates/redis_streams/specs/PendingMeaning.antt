-- The meaning of the records of XPENDING: the mathematical ones, whatever the capacity of their texts and lists.
use Rattle.std.specs.Prelude.{ℕ, List, Option, Some, None, map, option_map, Vec, String, string_bytes}
use Rattle.std.specs.declared.alloc.Global.{Global}
use Rattle.redis_streams.specs.Pending.{PendingSummary, PendingEntry, SummaryParts}
use Rattle.redis_streams.specs.InfoMeaning.{consumer_meaning}
use Rattle.redis_streams.specs.declared.pending.summary.StreamPendingData.{StreamPendingData}
use Rattle.redis_streams.specs.declared.pending.summary.StreamPendingReply.{StreamPendingReply}
use Rattle.redis_streams.specs.declared.pending.summary.StreamPendingReply.TheVariants.{Empty, Data}
use Rattle.redis_streams.specs.declared.pending.extended.StreamPendingId.{StreamPendingId}
use Rattle.redis_streams.specs.declared.pending.extended.StreamPendingCountReply.{StreamPendingCountReply}

-- the summary of a record
abbrev pub data_meaning : StreamPendingData → PendingSummary
data_meaning d = record {
  count = d.count;
  start_id = string_bytes d.start_id;
  end_id = string_bytes d.end_id;
  consumers = map consumer_meaning d.consumers.items;
}

-- the summary of a reply, or None if nothing is pending
abbrev pub pending_meaning : StreamPendingReply → Option PendingSummary
pending_meaning Empty = None
pending_meaning (Data d) = Some (data_meaning d)

-- the number of pending entries of a reply
abbrev pub count_of : StreamPendingReply → ℕ
count_of Empty = 0
count_of (Data d) = d.count

-- the pending entry of a record
abbrev pub pending_id_meaning : StreamPendingId → PendingEntry
pending_id_meaning p = record {
  id = string_bytes p.id;
  consumer = string_bytes p.consumer;
  last_delivered_ms = p.last_delivered_ms;
  times_delivered = p.times_delivered;
}

-- the pending entries of a reply
abbrev pub pending_ids_meaning : StreamPendingCountReply → List PendingEntry
pending_ids_meaning r = map pending_id_meaning r.ids.items

-- a name with the text of its count
abbrev pub row_meaning : String Global × String Global → List ℕ × List ℕ
row_meaning p = (string_bytes p.0, string_bytes p.1)

-- the parts of a summary as they were read
abbrev pub parts_meaning : ℕ × Option (String Global) × Option (String Global)
    × Vec (Option (String Global × String Global)) Global → SummaryParts
parts_meaning p =
    (p.0, option_map string_bytes p.1, option_map string_bytes p.2, map (option_map row_meaning) p.3.items)
