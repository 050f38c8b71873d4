-- Records of replies as C receives them: numbers, flags, and places in texts that were copied one after the other.
use Rattle.std.specs.Prelude.{◌≡◌, ◌≢◌, ◌≤◌, ◌<◌, ◌⊎◌, ℕ, List, [], ◌∷◌, ◌++◌, length, take, flat_map, Option, Some, None}
use Rattle.redis_resp.specs.Tree.{Tree}
use Rattle.redis_wire.specs.declared.fault.Fault.{Fault}
use Rattle.redis_wire.specs.declared.fault.Fault.TheVariants.{TooMany}
use Rattle.redis_wire.specs.declared.fault.WireError.TheVariants as errors
use Rattle.redis_wire.specs.declared.place.Span.{Span}
use Rattle.redis_wire.specs.Decoded.{IsFirstFault}
use Rattle.redis_wire.specs.Grammar.{IsReply}
use Rattle.redis_wire.specs.Limits.{default_limits}
use Rattle.redis_wire.specs.Place.{text_in, IsSpan}
use Rattle.redis_wire.specs.Reply.{Answer, value, refused}
use Rattle.redis_streams.specs.Info.{Consumer, Group}
use Rattle.redis_streams.specs.Pending.{PendingEntry, PendingSummary}
use Rattle.redis_c.specs.declared.outcome.Outcome.{Outcome}
use Rattle.redis_c.specs.declared.outcome.Outcome.TheVariants as outcomes
use Rattle.redis_c.specs.declared.records.ConsumerRecord.{ConsumerRecord}
use Rattle.redis_c.specs.declared.records.GroupRecord.{GroupRecord}
use Rattle.redis_c.specs.declared.records.PendingRecord.{PendingRecord}
use Rattle.redis_c.specs.declared.records.Records.{Records}
use Rattle.redis_c.specs.declared.records.Records.TheVariants as records
use Rattle.redis_c.specs.declared.records.RecordsFound.{RecordsFound}
use Rattle.redis_c.specs.declared.records.SummaryRecord.{SummaryRecord}
use Rattle.redis_c.specs.Outcome.{code, code_of_fault, found, nowhere}
use Rattle.redis_c.specs.Settings.{if_set}
use Rattle.redis_c.specs.Told.{IsAnswered, IsNoError, IsOther}

-- ---- records and texts

-- the text is at that place within the texts
pub record IsCopyAt (texts : List ℕ) (place : Span) (text : List ℕ) : Type 0 where
  pub within : IsSpan texts place
  pub is : text_in texts place ≡ text

-- records one by one
abbrev pub AreAt : {P M : Type 0} → (P → M → Type 0) → List P → List M → Type 0
AreAt Is [] [] = Unit {0}
AreAt Is [] (m ∷ ms) = ⊥
AreAt Is (p ∷ ps) [] = ⊥
AreAt Is (p ∷ ps) (m ∷ ms) = Is p m × AreAt Is ps ms

-- the record describes this group
pub record IsGroupAt (texts : List ℕ) (p : GroupRecord) (g : Group) : Type 0 where
  pub name : IsCopyAt texts p.name g.name
  pub last_delivered_id : IsCopyAt texts p.last_delivered_id g.last_delivered_id
  pub consumers : p.consumers ≡ g.consumers
  pub pending : p.pending ≡ g.pending
  pub entries_read : if_set p.has_entries_read p.entries_read ≡ g.entries_read
  pub lag : if_set p.has_lag p.lag ≡ g.lag

-- the texts of a group
abbrev pub group_text : Group → List ℕ
group_text g = g.name ++ g.last_delivered_id

-- the record describes this pending entry
pub record IsPendingAt (texts : List ℕ) (p : PendingRecord) (e : PendingEntry) : Type 0 where
  pub id : IsCopyAt texts p.id e.id
  pub consumer : IsCopyAt texts p.consumer e.consumer
  pub last_delivered_ms : p.last_delivered_ms ≡ e.last_delivered_ms
  pub times_delivered : p.times_delivered ≡ e.times_delivered

-- the texts of a pending entry
abbrev pub pending_text : PendingEntry → List ℕ
pending_text e = e.id ++ e.consumer

-- the record describes this consumer
pub record IsConsumerAt (texts : List ℕ) (p : ConsumerRecord) (c : Consumer) : Type 0 where
  pub name : IsCopyAt texts p.name c.name
  pub pending : p.pending ≡ c.pending

-- the text of a consumer
abbrev pub consumer_text : Consumer → List ℕ
consumer_text c = c.name

-- the records describe pending entries
pub record IsFilledAt (texts : List ℕ) (p : SummaryRecord) (ps : List ConsumerRecord) (s : PendingSummary)
    : Type 0 where
  pub count : p.count ≡ s.count
  pub start_id : IsCopyAt texts p.start_id s.start_id
  pub end_id : IsCopyAt texts p.end_id s.end_id
  pub consumers : AreAt (IsConsumerAt texts) ps s.consumers

-- the records describe the pending entries; or there are none, and then their places are empty
abbrev pub IsSummaryAt : List ℕ → SummaryRecord → List ConsumerRecord → Option PendingSummary → Type 0
IsSummaryAt texts p consumers None =
    (p ≡ record { count = 0; start_id = nowhere; end_id = nowhere }) × (consumers ≡ [])
IsSummaryAt texts p consumers (Some s) = IsFilledAt texts p consumers s

-- the texts of the pending entries
abbrev pub summary_text : Option PendingSummary → List ℕ
summary_text None = []
summary_text (Some s) = s.start_id ++ (s.end_id ++ flat_map consumer_text s.consumers)

-- the consumers of the pending entries
abbrev pub summary_consumers : Option PendingSummary → List Consumer
summary_consumers None = []
summary_consumers (Some s) = s.consumers

-- ---- what is returned to C

-- the status code of the outcome; no two kinds have the same
abbrev pub records_code : Records → ℕ
records_code (records.Copied len records text) = 0
records_code (records.Room len records text) = 1
records_code (records.Unread outcome) = code outcome

-- the values that C receives beside the status code
abbrev pub records_found : Records → RecordsFound
records_found (records.Copied len records text) =
    record { len = len; records = records; text = text; error = nowhere }
records_found (records.Room len records text) =
    record { len = len; records = records; text = text; error = nowhere }
records_found (records.Unread outcome) =
    record { len = (found outcome).len; records = 0; text = 0; error = (found outcome).error }

module _ {M : Type 0} (reading : Tree → Option M) (bytes : List ℕ) where
  -- The first `len` bytes are a value that has this record.
  pub record IsRecordAt (len : ℕ) (m : M) : Type 0 where
    pub t : Tree
    pub answered : IsAnswered bytes len (value t)
    pub reads : reading t ≡ Some m

  -- a value without a record, or no value at all
  abbrev pub HasNoRecord : Answer → Type 0
  HasNoRecord (value t) = reading t ≡ None
  HasNoRecord _ = Unit {0}

  -- The first `len` bytes are a reply that is not an error and has no record.
  pub record IsUnreadAt (len : ℕ) : Type 0 where
    pub a : Answer
    pub answered : IsAnswered bytes len a
    pub no_error : IsNoError a
    pub no_record : HasNoRecord a

  -- If there is no record: the bytes end too early, or have a fault; an error of the server, wherever its text is; or
  -- a reply of another shape, which is not an error and has no record.
  abbrev pub IsUnread : Outcome → Type 0
  IsUnread (outcomes.OtherShape len) = IsUnreadAt len
  IsUnread o = IsOther bytes o

  module _ (Holds : ℕ → ℕ → M → Type 0) (records_of : M → ℕ) (text_of : M → List ℕ) (room text_room : ℕ) where
    -- The tables hold the record of the reply, with `count` parts and `text` bytes of texts.
    pub record AreCopied (len count text : ℕ) : Type 0 where
      pub m : M
      pub at : IsRecordAt len m
      pub count_is : count ≡ records_of m
      pub text_is : text ≡ length (text_of m)
      pub few : count ≤ room
      pub short : text ≤ text_room
      pub holds : Holds count text m

    -- The record of the reply has `count` parts and `text` bytes of texts, for which the tables are too small.
    pub record AreTooMuch (len count text : ℕ) : Type 0 where
      pub m : M
      pub at : IsRecordAt len m
      pub count_is : count ≡ records_of m
      pub text_is : text ≡ length (text_of m)
      pub more : (room < count) ⊎ (text_room < text)

    -- The outcome of parsing: the tables hold the record of the reply; or it needs more room; or there is none.
    abbrev pub AreRecords : Records → Type 0
    AreRecords (records.Copied len count text) = AreCopied len count text
    AreRecords (records.Room len count text) = AreTooMuch len count text
    AreRecords (records.Unread o) = IsUnread o

    -- The status code of the outcome is returned to C, and what was found.
    pub record AreRecordsTold (n : ℕ) (f : RecordsFound) : Type 0 where
      pub told : Records
      pub number : n ≡ records_code told
      pub beside : f ≡ records_found told
      pub are : AreRecords told

module _ {T : Type 0} (rows : List T) (copies : List ℕ) (room text_room : ℕ) where
  -- A table begins with the rows, and the texts with their copies.
  pub record AreInFront (table : List T) (texts : List ℕ) (count text : ℕ) : Type 0 where
    pub count_is : count ≡ length rows
    pub text_is : text ≡ length copies
    pub few : count ≤ room
    pub short : text ≤ text_room
    pub rows_are : take count table ≡ rows
    pub copies_are : take text texts ≡ copies

  -- There is too little room for them.
  pub record WantMore (count text : ℕ) : Type 0 where
    pub count_is : count ≡ length rows
    pub text_is : text ≡ length copies
    pub more : (room < count) ⊎ (text_room < text)

  -- The outcome of copying them, for a reply of this length.
  abbrev pub IsCopying : List T → List ℕ → ℕ → Records → Type 0
  IsCopying table texts len (records.Copied l count text) = (l ≡ len) × AreInFront table texts count text
  IsCopying table texts len (records.Room l count text) = (l ≡ len) × WantMore count text
  IsCopying table texts len (records.Unread o) = ⊥

-- the tables begin with the groups, and the texts with theirs
abbrev pub HoldGroups : List GroupRecord → List ℕ → ℕ → ℕ → List Group → Type 0
HoldGroups groups texts count text gs = AreAt (IsGroupAt (take text texts)) (take count groups) gs

-- the tables begin with the pending entries, and the texts with theirs
abbrev pub HoldEntries : List PendingRecord → List ℕ → ℕ → ℕ → List PendingEntry → Type 0
HoldEntries entries texts count text es = AreAt (IsPendingAt (take text texts)) (take count entries) es

-- the summary is that of the reply, the table begins with its consumers, and the texts with those of both
abbrev pub HoldSummary : SummaryRecord → List ConsumerRecord → List ℕ → ℕ → ℕ → Option PendingSummary → Type 0
HoldSummary summary consumers texts count text s = IsSummaryAt (take text texts) summary (take count consumers) s

-- ---- what has to be returned

-- the status code is this one, or that of memory
abbrev pub IsOrMemory : ℕ → ℕ → Type 0
IsOrMemory n code = (code ≡ n) ⊎ (code ≡ 5)

-- What has to be returned for bytes, unless memory runs out: that they end too early, if they are a proper prefix
-- of a reply; an error of the server, if they begin with one; and a fault, if it is the first one in the bytes.
pub record TellsReplies (bytes : List ℕ) (n : ℕ) : Type 0 where
  pub early : (more : List ℕ) (a : Answer) → more ≢ [] → IsReply default_limits (bytes ++ more) a → IsOrMemory 2 n
  pub error : (text rest e : List ℕ) → IsReply default_limits text (refused e) → bytes ≡ text ++ rest → IsOrMemory 3 n
  pub fault : (f : Fault) → IsFirstFault default_limits bytes (errors.Fault f) → IsOrMemory (code_of_fault f) n

-- The same for a call that finds entries, whose replies may have any number of values.
pub record TellsFinding (bytes : List ℕ) (n : ℕ) : Type 0 where
  pub early : (more : List ℕ) (a : Answer) → more ≢ [] → IsReply default_limits (bytes ++ more) a → IsOrMemory 2 n
  pub error : (text rest e : List ℕ) → IsReply default_limits text (refused e) → bytes ≡ text ++ rest → IsOrMemory 3 n
  pub fault : (f : Fault) → f ≢ TooMany → IsFirstFault default_limits bytes (errors.Fault f)
      → IsOrMemory (code_of_fault f) n

module _ {M : Type 0} (reading : Tree → Option M) (records_of : M → ℕ) (text_of : M → List ℕ) (room text_room : ℕ)
  where
    -- there is room for a record
    pub record HasRoom (m : M) : Type 0 where
      pub few : records_of m ≤ room
      pub short : length (text_of m) ≤ text_room

    -- What has to be returned for a reply with a record: that it was copied, if the tables have room; else, that it
    -- needs more. And for a value without one: that it has another shape.
    pub record TellsRecords (bytes : List ℕ) (n : ℕ) : Type 0 where
      pub replies : TellsReplies bytes n
      pub copied : (text rest : List ℕ) (t : Tree) (m : M) → IsReply default_limits text (value t)
          → bytes ≡ text ++ rest → reading t ≡ Some m → HasRoom m → IsOrMemory 0 n
      pub wanted : (text rest : List ℕ) (t : Tree) (m : M) → IsReply default_limits text (value t)
          → bytes ≡ text ++ rest → reading t ≡ Some m → (HasRoom m → ⊥) → IsOrMemory 1 n
      pub other : (text rest : List ℕ) (t : Tree) → IsReply default_limits text (value t) → bytes ≡ text ++ rest
          → reading t ≡ None → IsOrMemory 4 n
