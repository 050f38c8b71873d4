-- The meaning of replies.
use Rattle.std.specs.Prelude.{ℕ, suc, Bool, true, false, ◌&&◌, ◌==◌, nat_eq, nat_lt, length, List, Option, Some, None}
use Rattle.std.specs.Prelude.{option_map, option_and_then, codes, if◌then◌else◌}
use Rattle.std.specs.List.{position_or_len, before_first, after_first}
use Rattle.std.specs.Str.{bytes_eq}
use Rattle.redis_resp.specs.Number.{unsigned_of, within}
use Rattle.redis_resp.specs.Reading.{both_read}
use Rattle.redis_resp.specs.Table.{field_record, fields_reading}
use Rattle.redis_resp.specs.Text.{text_reading}
use Rattle.redis_resp.specs.Tree.{Tree, Trees, bulk, array, no_trees, more_trees}
use Rattle.redis_wire.specs.Reply as wire
use Rattle.redis_wire.specs.Reply.{AnswerList, no_answers, more_answers}
use Rattle.redis_wire.specs.declared.kind.GroupKind.{GroupKind}
use Rattle.redis_wire.specs.declared.kind.GroupKind.TheVariants as groups
use Rattle.model_server.specs.Group.Group.{Numbers}
use Rattle.model_server.specs.Once.Feed.{Stage, asking, knows, waits, Answer, executed, last_is}

-- a number of 64 bits
abbrev pub number_in : List ℕ → Option ℕ
number_in text = option_and_then (within 64) (unsigned_of text)

-- a hyphen
abbrev pub is_hyphen : ℕ → Bool
is_hyphen c = c == 45

-- the two numbers of an id, before and after the first hyphen
abbrev pub numbers_in : List ℕ → Option Numbers
numbers_in text = if nat_lt (position_or_len is_hyphen text) (length text)
    then both_read (number_in (before_first is_hyphen text)) (number_in (after_first is_hyphen text))
    else None

-- the `last-generated-id` of XINFO STREAM, as text
abbrev pub last_text : Tree → Option (List ℕ)
last_text t = option_and_then (λ fields. field_record text_reading fields (codes "last-generated-id"))
    (fields_reading (λ field. Some field) t)

-- its two numbers
abbrev pub last_in : Tree → Option Numbers
last_in t = option_and_then numbers_in (last_text t)

-- if there is no stream, nothing was added
abbrev pub no_stream : List ℕ → Option Numbers
no_stream text = if bytes_eq text (codes "ERR no such key") then Some (0, 0) else None

-- the last id, by the reply to XINFO STREAM
abbrev pub last_of : wire.Answer → Option Numbers
last_of (wire.value t) = last_in t
last_of (wire.refused text) = no_stream text
last_of (wire.group kind members) = None
last_of (wire.pushed kind payload) = None

-- the value is a string, as an id is
abbrev pub is_id : Tree → Bool
is_id (bulk text) = true
is_id _ = false

-- a record is in the stream, by the reply to its XADD: it was added, or its id is not above the last one
abbrev pub stands : wire.Answer → Bool
stands (wire.value t) = is_id t
stands (wire.refused text) =
    bytes_eq text (codes "ERR The ID specified in XADD is equal or smaller than the target stream top item")
stands (wire.group kind members) = false
stands (wire.pushed kind payload) = false

-- how many values
abbrev pub value_count : Trees → ℕ
value_count no_trees = 0
value_count (more_trees t ts) = suc (value_count ts)

-- each is an id
abbrev pub are_ids : Trees → Bool
are_ids no_trees = true
are_ids (more_trees t ts) = is_id t && are_ids ts

-- this number of ids
abbrev pub is_ids : ℕ → Tree → Bool
is_ids n (array ts) = nat_eq (value_count ts) n && are_ids ts
is_ids n _ = false

-- how many replies
abbrev pub reply_count : AnswerList → ℕ
reply_count no_answers = 0
reply_count (more_answers a xs) = suc (reply_count xs)

-- the first that is not a reply of a record in the stream
abbrev pub not_standing : AnswerList → Option wire.Answer
not_standing no_answers = None
not_standing (more_answers a xs) = if stands a then not_standing xs else Some a

-- there is no such reply
abbrev pub is_none : {A : Type 0} → Option A → Bool
is_none None = true
is_none (Some x) = false

-- this number of replies, each of a record in the stream
abbrev pub all_stand : ℕ → GroupKind → AnswerList → Bool
all_stand n groups.Array xs = nat_eq (reply_count xs) n && is_none (not_standing xs)
all_stand n groups.Set xs = false
all_stand n groups.Map xs = false
all_stand n groups.Attribute xs = false

-- a batch of this number of records was executed, and each of them is in the stream, by the reply to EXEC
abbrev pub is_executed : ℕ → wire.Answer → Bool
is_executed n (wire.value t) = is_ids n t
is_executed n (wire.refused text) = false
is_executed n (wire.group kind members) = all_stand n kind members
is_executed n (wire.pushed kind payload) = false

-- the reply as the producer reads it, if it fits the command
abbrev pub heard : Stage → wire.Answer → Option Answer
heard asking a = option_map last_is (last_of a)
heard (knows m) a = None
heard (waits m n) a = if is_executed n a then Some executed else None
