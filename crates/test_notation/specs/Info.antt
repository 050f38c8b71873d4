-- How the replies of XINFO are printed in a line.
use Rattle.std.specs.Prelude.{ℕ, List, ◌++◌, codes, decimal, string_bytes}
use Rattle.redis_streams.specs.declared.info.consumers.StreamInfoConsumersReply.{StreamInfoConsumersReply}
use Rattle.redis_streams.specs.declared.info.groups.StreamInfoGroup.{StreamInfoGroup}
use Rattle.redis_streams.specs.declared.info.groups.StreamInfoGroupsReply.{StreamInfoGroupsReply}
use Rattle.redis_streams.specs.declared.info.idempotency.StreamInfoStreamReplyWithIdempotency.{StreamInfoStreamReplyWithIdempotency}
use Rattle.redis_streams.specs.declared.info.stream.StreamInfoStreamReply.{StreamInfoStreamReply}
use Rattle.redis_streams.specs.declared.info.consumer.StreamInfoConsumer.{StreamInfoConsumer}
use Rattle.test_notation.specs.Entry.{entry_form}
use Rattle.test_notation.specs.Form.{listed, number_form}

-- the first and the last entry of a stream
unfoldable pub ends_form : StreamInfoStreamReply → List ℕ
ends_form r = codes " first=" ++ entry_form r.first_entry ++ codes " final=" ++ entry_form r.last_entry

-- the numbers of a stream, and its first and last entry
unfoldable pub stream_form : StreamInfoStreamReply → List ℕ
stream_form r =
    codes "last=" ++ string_bytes r.last_generated_id ++ codes " keys=" ++ decimal r.radix_tree_keys
    ++ codes " nodes=" ++ decimal r.radix_tree_nodes ++ codes " groups=" ++ decimal r.groups ++ codes " length="
    ++ decimal r.length
    ++ ends_form r

-- the same, and the numbers on idempotent producers
abbrev pub idempotency_form : StreamInfoStreamReplyWithIdempotency → List ℕ
idempotency_form r =
    stream_form r.base ++ codes " duration=" ++ decimal r.idmp_duration ++ codes " maxsize=" ++ decimal r.idmp_maxsize
    ++ codes " pids=" ++ decimal r.pids_tracked ++ codes " tracked=" ++ decimal r.iids_tracked
    ++ codes " added=" ++ decimal r.iids_added ++ codes " duplicates=" ++ decimal r.iids_duplicates

-- a consumer, how many entries are pending for it, and for how long it has been idle
abbrev pub consumer_form : StreamInfoConsumer → List ℕ
consumer_form c = string_bytes c.name ++ codes " pending=" ++ decimal c.pending ++ codes " idle=" ++ decimal c.idle

-- the consumers of a group
abbrev pub consumers_form : StreamInfoConsumersReply → List ℕ
consumers_form r = listed consumer_form (codes "; ") r.consumers.items

-- how many entries a group has read, and how many it has still to read
abbrev pub progress_form : StreamInfoGroup → List ℕ
progress_form g = codes " read=" ++ number_form g.entries_read ++ codes " lag=" ++ number_form g.lag

-- a group and its numbers
abbrev pub group_form : StreamInfoGroup → List ℕ
group_form g =
    string_bytes g.name ++ codes " consumers=" ++ decimal g.consumers ++ codes " pending=" ++ decimal g.pending
    ++ codes " last=" ++ string_bytes g.last_delivered_id ++ progress_form g

-- the groups of a stream
abbrev pub groups_form : StreamInfoGroupsReply → List ℕ
groups_form r = listed group_form (codes "; ") r.groups.items
