-- How the reply of XINFO STREAM FULL is printed in a line.
use Rattle.std.specs.Prelude.{ℕ, ℤ, List, ◌++◌, Option, Some, None, codes, decimal, String, string_bytes}
use Rattle.std.specs.declared.alloc.Global.{Global}
use Rattle.std.specs.Fmt.{signed_decimal}
use Rattle.std.specs.List.{join_by}
use Rattle.redis_resp.specs.Value.{tree}
use Rattle.redis_resp.specs.declared.value.Value.{Value}
use Rattle.redis_streams.specs.declared.info.full.consumer.StreamInfoFullConsumer.{StreamInfoFullConsumer}
use Rattle.redis_streams.specs.declared.info.full.entry.StreamInfoFullEntry.{StreamInfoFullEntry}
use Rattle.redis_streams.specs.declared.info.full.group.StreamInfoFullGroup.{StreamInfoFullGroup}
use Rattle.redis_streams.specs.declared.info.full.pending.StreamInfoConsumerPending.{StreamInfoConsumerPending}
use Rattle.redis_streams.specs.declared.info.full.pending.StreamInfoFullPending.{StreamInfoFullPending}
use Rattle.redis_streams.specs.declared.info.full.stream.StreamInfoFullReply.{StreamInfoFullReply}
use Rattle.test_notation.specs.Entry.{pair_form}
use Rattle.test_notation.specs.Form.{number_form}

-- a field: its name, an equals sign, and its value
abbrev pub own_field_form : String Global × Value → List ℕ
own_field_form f = pair_form (string_bytes f.0, tree f.1)

-- an entry: its id, and its fields in parentheses, as they were added
abbrev pub full_entry_form : StreamInfoFullEntry → List ℕ
full_entry_form e = string_bytes e.id ++ codes "(" ++ join_by own_field_form (codes ",") e.fields.items ++ codes ")"

-- a pending entry of a group
abbrev pub full_pending_form : StreamInfoFullPending → List ℕ
full_pending_form p =
    string_bytes p.id ++ codes " " ++ string_bytes p.consumer ++ codes " " ++ decimal p.delivery_time ++ codes " "
    ++ decimal p.times_delivered

-- a pending entry of a consumer
abbrev pub own_pending_form : StreamInfoConsumerPending → List ℕ
own_pending_form p = string_bytes p.id ++ codes " " ++ decimal p.delivery_time ++ codes " " ++ decimal p.times_delivered

-- a time in decimal, or `none`
abbrev pub time_form : Option ℤ → List ℕ
time_form (Some z) = signed_decimal z
time_form None = codes "none"

-- when a consumer was last seen and last active, and how many entries are pending for it
unfoldable pub consumer_times_form : StreamInfoFullConsumer → List ℕ
consumer_times_form c =
    string_bytes c.name ++ codes " seen=" ++ decimal c.seen_time ++ codes " active=" ++ time_form c.active_time
    ++ codes " count=" ++ decimal c.pending_count

-- a consumer, and its pending entries in brackets
abbrev pub full_consumer_form : StreamInfoFullConsumer → List ℕ
full_consumer_form c =
    consumer_times_form c ++ codes " pending=[" ++ join_by own_pending_form (codes "; ") c.pending.items ++ codes "]"

-- the name of a group, its last delivered id, read count and lag, and its count of pending entries
unfoldable pub group_numbers_form : StreamInfoFullGroup → List ℕ
group_numbers_form g =
    string_bytes g.name ++ codes " last=" ++ string_bytes g.last_delivered_id ++ codes " read="
    ++ number_form g.entries_read
    ++ codes " lag=" ++ number_form g.lag ++ codes " count=" ++ decimal g.pending_count

-- a group, and in brackets its pending entries and its consumers
abbrev pub full_group_form : StreamInfoFullGroup → List ℕ
full_group_form g =
    group_numbers_form g ++ codes " pending=[" ++ join_by full_pending_form (codes "; ") g.pending.items
    ++ codes "] consumers=[" ++ join_by full_consumer_form (codes "; ") g.consumers.items ++ codes "]"

-- the numbers and the ids of a stream
unfoldable pub full_numbers_form : StreamInfoFullReply → List ℕ
full_numbers_form r =
    codes "length=" ++ decimal r.length ++ codes " keys=" ++ decimal r.radix_tree_keys
    ++ codes " nodes=" ++ decimal r.radix_tree_nodes ++ codes " last=" ++ string_bytes r.last_generated_id
    ++ codes " deleted=" ++ string_bytes r.max_deleted_entry_id ++ codes " added=" ++ number_form r.entries_added
    ++ codes " recorded=" ++ string_bytes r.recorded_first_entry_id

-- a stream, and in brackets its entries and its groups
abbrev pub full_form : StreamInfoFullReply → List ℕ
full_form r =
    full_numbers_form r ++ codes " entries=[" ++ join_by full_entry_form (codes " ") r.entries.items
    ++ codes "] groups=[" ++ join_by full_group_form (codes "; ") r.groups.items ++ codes "]"
