-- Replies with entries as servers write them, byte by byte, and which of these are within the limits.
use Rattle.std.specs.Prelude.{◌≡◌, ◌≤◌, ◌<◌, ◌^◌, ◌*◌, ℕ, suc, Bool, true, false, List, [], ◌++◌, flat_map, length}
use Rattle.std.specs.Prelude.{codes, decimal, Option, Some, None}
use Rattle.std.specs.List.{AllByRecursion}
use Rattle.std.specs.Str.{is_utf8}
use Rattle.redis_wire.specs.declared.limits.Limits.{Limits}
use Rattle.redis_wire.specs.Packed.{bulk_bytes}
use Rattle.redis_wire.specs.Written.{line_bytes, count_bytes}
use Rattle.stream_entries.specs.JustId.{JustId}
use Rattle.stream_in_place.specs.Sent.{Pairs, SentEntry, SentStream, SentAutoClaim}
use Rattle.stream_in_place.specs.AddedIds.{deleted_count}

-- the three ways to write nil
pub data NilForm : Type 0 where
  no_array : NilForm
  no_text : NilForm
  null : NilForm

-- an array or a bulk string of length -1, or in RESP3 a null
unfoldable pub nil_bytes : NilForm → List ℕ
nil_bytes no_array = line_bytes 42 (codes "-1")
nil_bytes no_text = line_bytes 36 (codes "-1")
nil_bytes null = line_bytes 95 []

-- a name and a value
unfoldable pub pair_bytes : List ℕ × List ℕ → List ℕ
pair_bytes p = bulk_bytes p.0 ++ bulk_bytes p.1

-- the fields of an entry: an array of names and values alternately, or nil if the entry was deleted
unfoldable pub fields_bytes : NilForm → Option Pairs → List ℕ
fields_bytes form None = nil_bytes form
fields_bytes form (Some ps) = count_bytes 42 (2 * length ps) ++ flat_map pair_bytes ps

-- the time and the count of the claim form
unfoldable pub delivery_bytes : Option (ℕ × ℕ) → List ℕ
delivery_bytes None = []
delivery_bytes (Some d) = line_bytes 58 (decimal d.0) ++ line_bytes 58 (decimal d.1)

-- the number of values of a row
abbrev pub row_len : Option (ℕ × ℕ) → ℕ
row_len None = 2
row_len (Some d) = 4

-- the row of an entry
unfoldable pub entry_bytes : NilForm → SentEntry → List ℕ
entry_bytes form e = count_bytes 42 (row_len e.delivery)
    ++ (bulk_bytes e.id ++ (fields_bytes form e.fields ++ delivery_bytes e.delivery))

-- the rows of entries, as XRANGE returns them
unfoldable pub rows_bytes : NilForm → List SentEntry → List ℕ
rows_bytes form es = count_bytes 42 (length es) ++ flat_map (entry_bytes form) es

-- what precedes the name of a stream: nothing in a map, and in an array the header of an array of two
unfoldable pub stream_head : Bool → List ℕ
stream_head true = []
stream_head false = count_bytes 42 2

-- a stream in a map or in an array: its name and its rows
unfoldable pub stream_bytes : Bool → NilForm → SentStream → List ℕ
stream_bytes in_map form s = stream_head in_map ++ (bulk_bytes s.name ++ rows_bytes form s.entries)

-- the three forms of a reply of streams
pub data ReadForm : Type 0 where
  as_nil : ReadForm
  as_array : ReadForm
  as_map : ReadForm

-- streams as XREAD and XREADGROUP return them: nil if there are none, an array of them, in RESP3 a map
unfoldable pub streams_bytes : ReadForm → NilForm → List SentStream → List ℕ
streams_bytes as_nil form ss = nil_bytes form
streams_bytes as_array form ss = count_bytes 42 (length ss) ++ flat_map (stream_bytes false form) ss
streams_bytes as_map form ss = count_bytes 37 (length ss) ++ flat_map (stream_bytes true form) ss

-- an array of ids
unfoldable pub ids_bytes : List (List ℕ) → List ℕ
ids_bytes ids = count_bytes 42 (length ids) ++ flat_map bulk_bytes ids

-- the deleted ids, which servers send from 7.0 on
unfoldable pub deleted_bytes : Bool → List (List ℕ) → List ℕ
deleted_bytes true ids = ids_bytes ids
deleted_bytes false ids = []

-- the header of an array of two, or of three with deleted ids, and the id to continue with
unfoldable pub claim_start : Bool → List ℕ → List ℕ
claim_start told next = count_bytes 42 (suc (suc (deleted_count told))) ++ bulk_bytes next

-- the reply of XAUTOCLAIM
unfoldable pub autoclaim_bytes : Bool → NilForm → SentAutoClaim → List ℕ
autoclaim_bytes told form r = claim_start told r.next ++ (rows_bytes form r.claimed ++ deleted_bytes told r.deleted)

-- the same with `JUSTID`
unfoldable pub justid_bytes : Bool → JustId → List ℕ
justid_bytes told r = claim_start told r.next ++ (ids_bytes r.claimed ++ deleted_bytes told r.deleted)

-- ---- within the limits

-- limits under which lines of 20 bytes and arrays of four are read
pub record AllowsRows (limits : Limits) : Type 0 where
  pub line : 20 ≤ limits.line
  pub row : 4 ≤ limits.length
  pub fits : limits.length < 2 ^ 32

-- a text in UTF-8 that is no longer than the limit
pub record IsName (limits : Limits) (text : List ℕ) : Type 0 where
  pub within : length text ≤ limits.length
  pub is_text : is_utf8 text ≡ true

-- a name and a value of any bytes, no longer than the limit
pub record IsPair (limits : Limits) (p : List ℕ × List ℕ) : Type 0 where
  pub name : length p.0 ≤ limits.length
  pub value : length p.1 ≤ limits.length

-- no more fields than the limit, each such a pair
abbrev pub ArePairs : Limits → Option Pairs → Type 0
ArePairs limits None = Unit {0}
ArePairs limits (Some ps) = (2 * length ps ≤ limits.length) × AllByRecursion (IsPair limits) ps

-- a time and a count of at most 63 bits, in the claim form only
abbrev pub IsOfForm : Bool → Option (ℕ × ℕ) → Type 0
IsOfForm false None = Unit {0}
IsOfForm false (Some d) = ⊥
IsOfForm true None = ⊥
IsOfForm true (Some d) = (d.0 < 2 ^ 63) × (d.1 < 2 ^ 63)

-- an entry of that form within the limits
pub record IsEntryOf (limits : Limits) (claim : Bool) (e : SentEntry) : Type 0 where
  pub id : IsName limits e.id
  pub pairs : ArePairs limits e.fields
  pub form : IsOfForm claim e.delivery

-- no more entries than the limit, each of that form
pub record AreEntriesOf (limits : Limits) (claim : Bool) (es : List SentEntry) : Type 0 where
  pub few : length es ≤ limits.length
  pub each : AllByRecursion (IsEntryOf limits claim) es

-- The bytes begin with the rows of these entries, `len` bytes long, and the limits allow them.
pub record BeginsWithRange (limits : Limits) (bytes : List ℕ) (es : List SentEntry) (len : ℕ) : Type 0 where
  pub form : NilForm
  pub rest : List ℕ
  pub is : bytes ≡ rows_bytes form es ++ rest
  pub len_is : len ≡ length (rows_bytes form es)
  pub deep : 4 ≤ limits.depth
  pub allows : AllowsRows limits
  pub within : AreEntriesOf limits false es

-- a stream with a name and entries within the limits
pub record IsStreamOf (limits : Limits) (claim : Bool) (s : SentStream) : Type 0 where
  pub name : IsName limits s.name
  pub entries : AreEntriesOf limits claim s.entries

-- no more streams than the limit, each such a stream
pub record AreStreamsOf (limits : Limits) (claim : Bool) (ss : List SentStream) : Type 0 where
  pub few : length ss ≤ limits.length
  pub each : AllByRecursion (IsStreamOf limits claim) ss

-- The bytes begin with these streams in the form `told`, whose rows have the form `claim`, and the limits allow them.
pub record BeginsAs (limits : Limits) (told : ReadForm) (claim : Bool) (bytes : List ℕ) (ss : List SentStream)
    : Type 0 where
  pub form : NilForm
  pub rest : List ℕ
  pub is : bytes ≡ streams_bytes told form ss ++ rest
  pub allows : AllowsRows limits
  pub within : AreStreamsOf limits claim ss

-- nil is only for no streams
abbrev pub IsToldAs : ReadForm → List SentStream → Type 0
IsToldAs as_nil ss = ss ≡ []
IsToldAs as_array ss = Unit {0}
IsToldAs as_map ss = Unit {0}

-- The bytes begin with these streams, whose rows have that form, `len` bytes long, and the limits
-- allow them.
pub record BeginsWithStreams (limits : Limits) (claim : Bool) (bytes : List ℕ) (ss : List SentStream) (len : ℕ)
    : Type 0 where
  pub told : ReadForm
  pub form : NilForm
  pub rest : List ℕ
  pub is : bytes ≡ streams_bytes told form ss ++ rest
  pub len_is : len ≡ length (streams_bytes told form ss)
  pub told_is : IsToldAs told ss
  pub deep : 6 ≤ limits.depth
  pub allows : AllowsRows limits
  pub within : AreStreamsOf limits claim ss

-- no more ids than the limit, each a text within the limits
pub record AreIdsOf (limits : Limits) (ids : List (List ℕ)) : Type 0 where
  pub few : length ids ≤ limits.length
  pub each : AllByRecursion (IsName limits) ids

-- such ids if the reply has deleted ids, and else none
abbrev pub AreDeleted : Limits → Bool → List (List ℕ) → Type 0
AreDeleted limits true ids = AreIdsOf limits ids
AreDeleted limits false ids = ids ≡ []

-- The bytes begin with that reply of XAUTOCLAIM, `len` bytes long, and the limits allow it.
pub record BeginsWithAutoClaim (limits : Limits) (bytes : List ℕ) (r : SentAutoClaim) (len : ℕ) : Type 0 where
  pub told : Bool
  pub form : NilForm
  pub rest : List ℕ
  pub is : bytes ≡ autoclaim_bytes told form r ++ rest
  pub len_is : len ≡ length (autoclaim_bytes told form r)
  pub deep : 5 ≤ limits.depth
  pub allows : AllowsRows limits
  pub next : IsName limits r.next
  pub claimed : AreEntriesOf limits false r.claimed
  pub deleted : AreDeleted limits told r.deleted

-- The same with `JUSTID`.
pub record BeginsWithJustId (limits : Limits) (bytes : List ℕ) (r : JustId) (len : ℕ) : Type 0 where
  pub told : Bool
  pub rest : List ℕ
  pub is : bytes ≡ justid_bytes told r ++ rest
  pub len_is : len ≡ length (justid_bytes told r)
  pub deep : 3 ≤ limits.depth
  pub allows : AllowsRows limits
  pub next : IsName limits r.next
  pub claimed : AreIdsOf limits r.claimed
  pub deleted : AreDeleted limits told r.deleted
