-- How the replies on pending entries are printed in a line.
use Rattle.std.specs.Prelude.{ℕ, List, ◌++◌, codes, decimal, string_bytes}
use Rattle.std.specs.List.{join_by}
use Rattle.redis_streams.specs.declared.info.consumer.StreamInfoConsumer.{StreamInfoConsumer}
use Rattle.redis_streams.specs.declared.pending.extended.StreamPendingCountReply.{StreamPendingCountReply}
use Rattle.redis_streams.specs.declared.pending.extended.StreamPendingId.{StreamPendingId}
use Rattle.redis_streams.specs.declared.pending.summary.StreamPendingReply.{StreamPendingReply}
use Rattle.redis_streams.specs.declared.pending.summary.StreamPendingReply.TheVariants.{Empty, Data}
use Rattle.test_notation.specs.Form.{listed}

-- a consumer's name and how many entries are pending for it
abbrev pub pending_of_form : StreamInfoConsumer → List ℕ
pending_of_form c = string_bytes c.name ++ codes "=" ++ decimal c.pending

-- how many entries are pending, the first and last id, and the consumers
abbrev pub pending_form : StreamPendingReply → List ℕ
pending_form Empty = codes "empty"
pending_form (Data d) =
    decimal d.count ++ codes " " ++ string_bytes d.start_id ++ codes " " ++ string_bytes d.end_id ++ codes " ["
    ++ join_by pending_of_form (codes " ") d.consumers.items ++ codes "]"

-- an entry that is pending, with its consumer, the milliseconds since its delivery, and how often it was delivered
abbrev pub pending_id_form : StreamPendingId → List ℕ
pending_id_form r =
    string_bytes r.id ++ codes " " ++ string_bytes r.consumer ++ codes " " ++ decimal r.last_delivered_ms ++ codes " "
    ++ decimal r.times_delivered

-- the entries that are pending
abbrev pub pending_count_form : StreamPendingCountReply → List ℕ
pending_count_form r = listed pending_id_form (codes "; ") r.ids.items
