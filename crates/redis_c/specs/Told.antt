-- The result that C receives for the bytes of a reply.
use Rattle.std.specs.Prelude.{◌≡◌, ◌≤◌, ◌<◌, ◌⊎◌, ◌++◌, ℕ, List, length, take, map, false}
use Rattle.redis_wire.specs.Limits.{default_limits}
use Rattle.redis_wire.specs.Reply.{Answer, refused}
use Rattle.redis_wire.specs.Grammar.{IsReply}
use Rattle.redis_wire.specs.Decoded.{NoReply, EndTooEarly, IsFirstFault}
use Rattle.redis_wire.specs.Place.{text_in, IsSpan}
use Rattle.redis_wire.specs.declared.fault.Fault.{Fault}
use Rattle.redis_wire.specs.declared.fault.WireError.TheVariants as errors
use Rattle.redis_wire.specs.declared.place.Span.{Span}
use Rattle.stream_in_place.specs.declared.places.FieldPlace.{FieldPlace}
use Rattle.stream_in_place.specs.declared.places.EntryPlace.{EntryPlace}
use Rattle.stream_in_place.specs.declared.places.StreamPlace.{StreamPlace}
use Rattle.stream_in_place.specs.Held.{Held}
use Rattle.stream_in_place.specs.Placed.{entry_in, stream_in}
use Rattle.stream_in_place.specs.Range.{IsRange, IsRead}
use Rattle.stream_in_place.specs.Sent.{SentEntry, SentStream, all_fields, all_entries, all_stream_fields}
use Rattle.stream_in_place.specs.Shapes.{BeginsWithRange, BeginsWithStreams}
use Rattle.redis_c.specs.declared.outcome.Counts.{Counts}
use Rattle.redis_c.specs.declared.outcome.Found.{Found}
use Rattle.redis_c.specs.declared.outcome.Outcome.{Outcome}
use Rattle.redis_c.specs.declared.outcome.Outcome.TheVariants as outcomes
use Rattle.redis_c.specs.Outcome.{code, found}

-- The first `len` bytes are a reply, whose entries are at these places.
abbrev pub RangeIn : List ℕ → ℕ → Held → Type 0
RangeIn bytes len held = IsRange default_limits bytes (map (entry_in bytes held.fields) held.entries) len

-- The first `len` bytes are a reply, whose streams are at these places.
abbrev pub StreamsIn : List ℕ → ℕ → Held → Type 0
StreamsIn bytes len held =
    IsRead default_limits bytes (map (stream_in bytes held.entries held.fields) held.streams) len

-- The bytes begin with the rows of entries in the form in which servers write them, and there is room for these
-- entries and for their fields.
pub record RangeFits (bytes : List ℕ) (entry_room field_room : ℕ) : Type 0 where
  pub es : List SentEntry
  pub len : ℕ
  pub begins : BeginsWithRange default_limits bytes es len
  pub entries : length es ≤ entry_room
  pub fields : length (all_fields es) ≤ field_room

-- The same for streams, with their entries and the fields of all of these.
pub record ReadFits (bytes : List ℕ) (stream_room entry_room field_room : ℕ) : Type 0 where
  pub ss : List SentStream
  pub len : ℕ
  pub begins : BeginsWithStreams default_limits false bytes ss len
  pub streams : length ss ≤ stream_room
  pub entries : length (all_entries ss) ≤ entry_room
  pub fields : length (all_stream_fields ss) ≤ field_room

-- the number of places
pub record HasCounts (counts : Counts) (held : Held) : Type 0 where
  pub streams : counts.streams ≡ length held.streams
  pub entries : counts.entries ≡ length held.entries
  pub fields : counts.fields ≡ length held.fields

-- The first `len` bytes are this reply.
pub record IsAnswered (bytes : List ℕ) (len : ℕ) (a : Answer) : Type 0 where
  pub within : len ≤ length bytes
  pub reply : IsReply default_limits (take len bytes) a

-- a reply that is not an error
abbrev pub IsNoError : Answer → Type 0
IsNoError (refused text) = ⊥
IsNoError _ = Unit {0}

-- The first `len` bytes are an error of the server, and its text is at that place within the bytes.
pub record IsErrorAt (bytes : List ℕ) (len : ℕ) (text : Span) : Type 0 where
  pub answered : IsAnswered bytes len (refused (text_in bytes text))
  pub within : IsSpan bytes text

-- The first `len` bytes are a reply that is not an error.
pub record IsShape (bytes : List ℕ) (len : ℕ) : Type 0 where
  pub a : Answer
  pub answered : IsAnswered bytes len a
  pub no_error : IsNoError a

-- The bytes end before the end of a reply, and have no fault.
pub record IsUnfinished (bytes : List ℕ) : Type 0 where
  pub none : NoReply default_limits bytes
  pub early : EndTooEarly default_limits bytes

-- The bytes are not a reply, whatever follows them, and this fault is the first one in them.
pub record IsFaulty (bytes : List ℕ) (fault : Fault) : Type 0 where
  pub none : (more : List ℕ) → NoReply default_limits (bytes ++ more)
  pub first : IsFirstFault default_limits bytes (errors.Fault fault)

-- the outcome of a reply that is an error of the server
abbrev pub IsError : List ℕ → Outcome → Type 0
IsError bytes (outcomes.ServerError len text) = IsErrorAt bytes len text
IsError bytes _ = ⊥

-- If no entries are in place: the bytes end too early, or have a fault; an error of the server, wherever its text is;
-- or a reply of another shape, which is not an error.
abbrev pub IsOther : List ℕ → Outcome → Type 0
IsOther bytes outcomes.Incomplete = IsUnfinished bytes
IsOther bytes (outcomes.ServerError len text) = IsErrorAt bytes len text
IsOther bytes (outcomes.OtherShape len) = IsShape bytes len
IsOther bytes outcomes.Memory = Unit {0}
IsOther bytes (outcomes.Fault fault) = IsFaulty bytes fault
IsOther bytes _ = ⊥

-- the first places of tables
abbrev pub first_of : Counts → List StreamPlace → List EntryPlace → List FieldPlace → Held
first_of counts streams entries fields = record {
  streams = take counts.streams streams;
  entries = take counts.entries entries;
  fields = take counts.fields fields;
}

-- room for these numbers of streams, entries and fields
abbrev pub room_of : ℕ → ℕ → ℕ → Counts
room_of streams entries fields = record { streams = streams; entries = entries; fields = fields }

-- one table has room for fewer than needed
abbrev pub IsTooMuch : Counts → Counts → Type 0
IsTooMuch counts room =
    (room.streams < counts.streams) ⊎ ((room.entries < counts.entries) ⊎ (room.fields < counts.fields))

-- The reply has places, and one of the tables has room for fewer.
abbrev pub IsWanted : (List ℕ → ℕ → Held → Type 0) → List ℕ → Counts → ℕ → Counts → Type 0
IsWanted In bytes room len counts =
    (held : Held) × In bytes len held × HasCounts counts held × IsTooMuch counts room

-- The outcome of parsing if tables with this room were not filled: the reply has places, and one of the tables has room
-- for fewer; or there are none.
abbrev pub IsRoom : (List ℕ → ℕ → Held → Type 0) → List ℕ → Counts → Outcome → Type 0
IsRoom In bytes room (outcomes.InPlace len counts) = ⊥
IsRoom In bytes room (outcomes.Room len counts) = IsWanted In bytes room len counts
IsRoom In bytes room o = IsOther bytes o

-- that more places are needed than one of the tables has room for; or, if each table has room for all places, that
-- memory ran out
abbrev pub IsWanting : ℕ → Counts → Counts → Outcome → Type 0
IsWanting len counts room (outcomes.Room l c) = (l ≡ len) × (c ≡ counts) × IsTooMuch counts room
IsWanting len counts room outcomes.Memory =
    (counts.streams ≤ room.streams) × (counts.entries ≤ room.entries) × (counts.fields ≤ room.fields)
IsWanting len counts room o = ⊥

-- no more places are returned than the tables have
abbrev pub AreHeld : List StreamPlace → List EntryPlace → List FieldPlace → Outcome → Type 0
AreHeld streams entries fields (outcomes.InPlace len counts) =
    (counts.streams ≤ length streams) × (counts.entries ≤ length entries) × (counts.fields ≤ length fields)
AreHeld streams entries fields o = Unit {0}

module _ (In : List ℕ → ℕ → Held → Type 0) (bytes : List ℕ) (room : Counts) (streams : List StreamPlace)
    (entries : List EntryPlace) (fields : List FieldPlace) where
  -- The outcome of parsing: the tables begin with the places; or there are places, and one of the tables has room for
  -- fewer; or there are none.
  abbrev pub IsOutcome : Outcome → Type 0
  IsOutcome (outcomes.InPlace len counts) = In bytes len (first_of counts streams entries fields)
  IsOutcome (outcomes.Room len counts) = IsWanted In bytes room len counts
  IsOutcome o = IsOther bytes o

  -- The status code of the outcome is returned to C, and what was found.
  pub record IsTold (n : ℕ) (f : Found) : Type 0 where
    pub outcome : Outcome
    pub number : n ≡ code outcome
    pub beside : f ≡ found outcome
    pub is : IsOutcome outcome
    pub held : AreHeld streams entries fields outcome

-- What has to be returned for a reply as servers write it, of `len` bytes and with `places` places of one kind, if a
-- table has room for `room` of them: its length and the number of places, with 0 only if there is room for them, and
-- otherwise with 1; or that memory ran out.
abbrev pub TellsPlaces : (room places len n told_len told_places : ℕ) → Type 0
TellsPlaces room places len n told_len told_places =
    (n ≡ 5) ⊎ ((((n ≡ 0) × (places ≤ room)) ⊎ (n ≡ 1)) × ((told_len ≡ len) × (told_places ≡ places)))
