-- The contracts between the parts of a worker.
use Rattle.std.specs.Prelude.{◌≡◌, ◌≢◌, ◌⊎◌, ℕ, Bool, true, false, List, [], Option, Some, None, String, string_bytes}
use Rattle.std.specs.declared.alloc.Global.{Global}
use Rattle.redis_resp.specs.Number.{unsigned_reading}
use Rattle.redis_resp.specs.Refusal.{Refuses}
use Rattle.redis_resp.specs.Tree.{Tree}
use Rattle.redis_resp.specs.declared.value.error.ParsingError.{ParsingError}
use Rattle.model_server.specs.Group.Worker.{Machine}
use Rattle.stream_in_place.specs.SentReading.{sent_autoclaim_reading, sent_streams_reading}
use Rattle.stream_in_place.specs.SentRefusal.{RefusesSentAutoClaim, RefusesSentStreams}
use Rattle.worker.specs.Answered.{HasNil}
use Rattle.worker.specs.Answers.{Heard, told, no_group, group_made, entries_read, is_gone}
use Rattle.worker.specs.Errors.{read_error}
use Rattle.worker.specs.declared.error.WorkerError.{WorkerError}
use Rattle.worker.specs.declared.error.WorkerError.TheVariants as causes
use Rattle.worker.specs.declared.state.Asked.{Asked}
use Rattle.worker.specs.declared.state.Asked.TheVariants as asked
use Rattle.worker.specs.declared.state.GroupState.{GroupState}
use Rattle.worker.specs.declared.state.GroupState.TheVariants.{Missing, Known}

-- decoding the value `t` fails, and `e` is the error of the worker for this
abbrev pub Unread : {M : Type 0} → (Tree → Option M) → (Tree → ParsingError → Type 0) → Tree → WorkerError → Type 0
Unread reading may_refuse t e = (p : ParsingError) × (e ≡ read_error p) × Refuses reading may_refuse t p

-- memory ran out, or the value `t` is not a list of streams
abbrev pub NoStreams : Tree → WorkerError → Type 0
NoStreams t e = (e ≡ causes.Memory) ⊎ Unread sent_streams_reading RefusesSentStreams t e

-- the value `t` has entries of another stream than `key`
abbrev pub IsOther : List ℕ → Tree → WorkerError → Type 0
IsOther key t e = (e ≡ causes.OtherStream) × (entries_read key t ≡ None) × (sent_streams_reading t ≢ None)

-- why the value `t` has no entries of the stream `key`
abbrev pub NotRead : List ℕ → Tree → WorkerError → Type 0
NotRead key t e = NoStreams t e ⊎ IsOther key t e

-- an entry of the value `t` has nil in place of its fields, and the error names its id
abbrev pub IsNil : List ℕ → Asked → Tree → WorkerError → Type 0
IsNil key question t e = (id : String Global) × (e ≡ causes.NilFields id) × HasNil key question t (string_bytes id)

-- why the value `t` has no new entries of the stream `key`
abbrev pub NotNews : List ℕ → Tree → WorkerError → Type 0
NotNews key t e = NotRead key t e ⊎ IsNil key asked.New t e

-- memory ran out, or the value `t` is not a reply to XAUTOCLAIM
abbrev pub NoClaim : Tree → WorkerError → Type 0
NoClaim t e = (e ≡ causes.Memory) ⊎ Unread sent_autoclaim_reading RefusesSentAutoClaim t e

-- why the value `t` is not a valid reply to XAUTOCLAIM
abbrev pub NotClaimed : List ℕ → Tree → WorkerError → Type 0
NotClaimed key t e = NoClaim t e ⊎ IsNil key asked.Claim t e

-- the state of the group that an error reply shows, if it shows one
abbrev pub state_by : Option Heard → Option GroupState
state_by None = None
state_by (Some (told answer)) = None
state_by (Some no_group) = Some Missing
state_by (Some group_made) = Some Known

-- the error reply shows whether the group exists
abbrev pub IsOfGroup : Option Heard → Type 0
IsOfGroup None = ⊥
IsOfGroup (Some (told answer)) = ⊥
IsOfGroup (Some no_group) = Unit {0}
IsOfGroup (Some group_made) = Unit {0}

-- the error for the error reply `text`. `NotAsked`: no command waits for a reply. `GroupIsGone`: the reply says
-- that the group is gone. `Server`: any other error reply
abbrev pub IsRefused : Asked → List ℕ → WorkerError → Type 0
IsRefused question text causes.NotAsked = question ≡ asked.Nothing
IsRefused question text (causes.Server e) =
    (question ≢ asked.Nothing) × (text ≡ e.text.items) × (is_gone question text ≡ false)
IsRefused question text (causes.GroupIsGone e) = (text ≡ e.text.items) × (is_gone question text ≡ true)
IsRefused question text causes.NotAnAnswer = ⊥
IsRefused question text (causes.Parsing e) = ⊥
IsRefused question text causes.OtherStream = ⊥
IsRefused question text (causes.NilFields id) = ⊥
IsRefused question text causes.Memory = ⊥

-- whether the command reads the consumer's own pending entries
abbrev pub reads_own : Asked → Bool
reads_own asked.Nothing = false
reads_own asked.Acknowledgement = false
reads_own asked.Group = false
reads_own asked.First = true
reads_own asked.Own = true
reads_own asked.Claim = false
reads_own asked.New = false

-- the value `t` is a count. `n` is the machine `m` with nothing left to acknowledge
abbrev pub IsAcknowledged : Tree → Machine → Machine → Type 0
IsAcknowledged t m n = (unsigned_reading 64 t ≢ None) × (n ≡ record m { to_acknowledge = [] })
