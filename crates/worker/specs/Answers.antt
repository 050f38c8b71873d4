-- The meaning of a reply, by the command.
use Rattle.std.specs.Prelude.{Bool, true, false, ◌&&◌, not, ℕ, List, [], ◌∷◌, Option, Some, None, option_map}
use Rattle.std.specs.Prelude.{option_and_then, codes, string_bytes, if◌then◌else◌}
use Rattle.std.specs.List.{list_all}
use Rattle.std.specs.Str.{bytes_eq}
use Rattle.redis_resp.specs.Number.{unsigned_reading}
use Rattle.redis_resp.specs.Tree.{Tree}
use Rattle.redis_wire.specs.Reply as wire
use Rattle.redis_wire.specs.Reply.{code_of}
use Rattle.model_server.specs.Group.Worker.{Answer, acknowledged, own_pending, taken_over, news}
use Rattle.stream_in_place.specs.Sent.{Pairs, SentAutoClaim, SentEntry, SentStream, is_none}
use Rattle.stream_in_place.specs.SentReading.{sent_autoclaim_reading, sent_streams_reading}
use Rattle.worker.specs.Taking.{all_delivered}
use Rattle.worker.specs.declared.state.Asked.{Asked}
use Rattle.worker.specs.declared.state.Asked.TheVariants as asked
use Rattle.worker.specs.declared.state.GroupState.{GroupState}
use Rattle.worker.specs.declared.state.GroupState.TheVariants.{Missing, Known}
use Rattle.worker.specs.declared.state.MakeGroup.{MakeGroup}
use Rattle.worker.specs.declared.state.MakeGroup.TheVariants.{Never, FromTheFirst, FromNow}
use Rattle.worker.specs.declared.state.Settings.{Settings}

-- the meaning of a reply to a worker: a reply for its machine, that the group is missing, or that the group was
-- created
pub data Heard : Type 0 where
  told : Answer Pairs → Heard
  no_group : Heard
  group_made : Heard

-- the entries of the only stream, if its name is `key`. An empty list if there is no stream
abbrev pub only_stream : List ℕ → List SentStream → Option (List SentEntry)
only_stream key [] = Some []
only_stream key (s ∷ []) = if bytes_eq s.name key then Some s.entries else None
only_stream key (s ∷ t ∷ rest) = None

-- the entries of the stream `key` in a value of XREADGROUP
abbrev pub entries_read : List ℕ → Tree → Option (List SentEntry)
entries_read key t = option_and_then (only_stream key) (sent_streams_reading t)

-- no entry has nil in place of its fields
abbrev pub all_there : List SentEntry → Bool
all_there es = list_all (λ e. not (is_none e.fields)) es

-- the id of the first entry with nil in place of its fields
abbrev pub first_nil : List SentEntry → Option (List ℕ)
first_nil [] = None
first_nil (e ∷ es) = if is_none e.fields then Some e.id else first_nil es

-- `es` as new entries, or `None` if one has nil in place of its fields. A server returns nil only for deleted
-- pending entries
abbrev pub those_there : List SentEntry → Option (List SentEntry)
those_there es = if all_there es then Some es else None

-- the new entries of the stream `key` in a value of XREADGROUP
abbrev pub news_read : List ℕ → Tree → Option (List SentEntry)
news_read key t = option_and_then those_there (entries_read key t)

-- the claim, or `None` if one of its entries has nil in place of its fields. Servers return the ids of deleted
-- entries in a separate list, or not at all
abbrev pub claim_there : SentAutoClaim → Option SentAutoClaim
claim_there c = if all_there c.claimed then Some c else None

-- the claim in a value of XAUTOCLAIM
abbrev pub claim_read : Tree → Option SentAutoClaim
claim_read t = option_and_then claim_there (sent_autoclaim_reading t)

-- the meaning of a value, as the reply to a command
abbrev pub says : List ℕ → Asked → Tree → Option Heard
says key asked.Nothing t = None
says key asked.Acknowledgement t = option_map (λ n. told acknowledged) (unsigned_reading 64 t)
says key asked.Group t = Some group_made
says key asked.First t = option_map (λ es. told (own_pending (all_delivered es))) (entries_read key t)
says key asked.Own t = option_map (λ es. told (own_pending (all_delivered es))) (entries_read key t)
says key asked.Claim t = option_map (λ c. told (taken_over c.next (all_delivered c.claimed))) (claim_read t)
says key asked.New t = option_map (λ es. told (news (all_delivered es))) (news_read key t)

-- whether a missing group is created
abbrev pub makes_group : MakeGroup → Bool
makes_group Never = false
makes_group FromTheFirst = true
makes_group FromNow = true

-- the meaning of an error reply to the first command: the group is missing, if the code is NOGROUP and a
-- missing group is created
abbrev pub where_none : MakeGroup → List ℕ → Option Heard
where_none make text = if makes_group make && bytes_eq (code_of text) (codes "NOGROUP") then Some no_group else None

-- the meaning of an error reply to XGROUP CREATE: the code BUSYGROUP says that another client created the group
abbrev pub where_made : List ℕ → Option Heard
where_made text = if bytes_eq (code_of text) (codes "BUSYGROUP") then Some group_made else None

-- the meaning of an error reply. Only the first command of all may find that the group is missing
abbrev pub means : MakeGroup → Asked → List ℕ → Option Heard
means make asked.Nothing text = None
means make asked.Acknowledgement text = None
means make asked.Group text = where_made text
means make asked.First text = where_none make text
means make asked.Own text = None
means make asked.Claim text = None
means make asked.New text = None

-- the meaning of a reply to a worker with the settings `s`, or `None` if the reply is an error to the worker
abbrev pub hears : Settings → Asked → wire.Answer → Option Heard
hears s question (wire.value t) = says (string_bytes s.key) question t
hears s question (wire.refused text) = means s.make_group question text
hears s question (wire.group kind members) = None
hears s question (wire.pushed kind payload) = None

-- whether a value in reply to the command shows that the group exists
abbrev pub shows_group : Asked → Bool
shows_group asked.Nothing = false
shows_group asked.Acknowledgement = false
shows_group asked.Group = true
shows_group asked.First = true
shows_group asked.Own = true
shows_group asked.Claim = true
shows_group asked.New = true

-- what is known of the group after a value in reply to the command
abbrev pub by_value : GroupState → Asked → GroupState
by_value group question = if shows_group question then Known else group

-- what is known of the group after an error reply with this meaning
abbrev pub by_error : GroupState → Option Heard → GroupState
by_error group None = group
by_error group (Some (told answer)) = group
by_error group (Some no_group) = Missing
by_error group (Some group_made) = Known

-- what is known of the group after the reply
abbrev pub group_after : Settings → GroupState → Asked → wire.Answer → GroupState
group_after s group question (wire.value t) = by_value group question
group_after s group question (wire.refused text) = by_error group (means s.make_group question text)
group_after s group question (wire.group kind members) = group
group_after s group question (wire.pushed kind payload) = group

-- whether an error reply says that a known group is gone: NOGROUP to a command after the first
abbrev pub is_gone : Asked → List ℕ → Bool
is_gone asked.Nothing text = false
is_gone asked.Acknowledgement text = false
is_gone asked.Group text = false
is_gone asked.First text = false
is_gone asked.Own text = bytes_eq (code_of text) (codes "NOGROUP")
is_gone asked.Claim text = bytes_eq (code_of text) (codes "NOGROUP")
is_gone asked.New text = bytes_eq (code_of text) (codes "NOGROUP")
