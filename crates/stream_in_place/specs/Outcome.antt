-- The result of reading a reply of any shape.
use Rattle.std.specs.Prelude.{◌≡◌, ◌≤◌, ℕ, List, ◌++◌, length, take, Result, Ok, Err}
use Rattle.redis_wire.specs.declared.limits.Limits.{Limits}
use Rattle.redis_wire.specs.declared.fault.WireError.{WireError}
use Rattle.redis_wire.specs.declared.fault.WireError.TheVariants as errors
use Rattle.redis_wire.specs.Reply.{Answer}
use Rattle.redis_wire.specs.Grammar.{IsReply}
use Rattle.redis_wire.specs.Decoded.{NoReply, EndTooEarly, IsFirstFault}
use Rattle.redis_wire.specs.Record.{IsRecord}
use Rattle.stream_entries.specs.EntryMeaning.{entries_of}
use Rattle.stream_entries.specs.ReadMeaning.{streams_of}
use Rattle.stream_entries.specs.Refusal.{RefusesRows, RefusesRead}
use Rattle.stream_entries.specs.Rows.{rows_reading}
use Rattle.stream_entries.specs.Read.{read_reading}
use Rattle.stream_in_place.specs.declared.outcome.RangeOutcome.{RangeOutcome}
use Rattle.stream_in_place.specs.declared.outcome.RangeOutcome.TheVariants as ranges
use Rattle.stream_in_place.specs.declared.outcome.ReadOutcome.{ReadOutcome}
use Rattle.stream_in_place.specs.declared.outcome.ReadOutcome.TheVariants as reads
use Rattle.stream_in_place.specs.Sent.{SentEntry, SentStream}
use Rattle.stream_in_place.specs.Range.{IsRange, IsRead}

-- in place; or the record of the reply at the start, its refusal or the server's error; or the bytes end too
-- early; or the first fault, after which the bytes are no reply, whatever follows them
abbrev pub IsRangeOutcome : Limits → List ℕ → Result RangeOutcome WireError → Type 0
IsRangeOutcome limits bytes (Ok (ranges.InPlace r)) = IsRange limits bytes r.entries r.len
IsRangeOutcome limits bytes (Ok (ranges.Copied reply len)) =
    (a : Answer) × (len ≤ length bytes) × IsReply limits (take len bytes) a
    × IsRecord rows_reading RefusesRows (λ r. entries_of r.ids) a reply
IsRangeOutcome limits bytes (Ok ranges.Incomplete) = NoReply limits bytes × EndTooEarly limits bytes
IsRangeOutcome limits bytes (Err errors.Memory) = Unit {0}
IsRangeOutcome limits bytes (Err (errors.Fault fault)) =
    ((more : List ℕ) → NoReply limits (bytes ++ more)) × IsFirstFault limits bytes (errors.Fault fault)

-- the same of a read
abbrev pub IsReadOutcome : Limits → List ℕ → Result ReadOutcome WireError → Type 0
IsReadOutcome limits bytes (Ok (reads.InPlace r)) = IsRead limits bytes r.streams r.len
IsReadOutcome limits bytes (Ok (reads.Copied reply len)) =
    (a : Answer) × (len ≤ length bytes) × IsReply limits (take len bytes) a
    × IsRecord read_reading RefusesRead (λ r. streams_of r.keys) a reply
IsReadOutcome limits bytes (Ok reads.Incomplete) = NoReply limits bytes × EndTooEarly limits bytes
IsReadOutcome limits bytes (Err errors.Memory) = Unit {0}
IsReadOutcome limits bytes (Err (errors.Fault fault)) =
    ((more : List ℕ) → NoReply limits (bytes ++ more)) × IsFirstFault limits bytes (errors.Fault fault)

-- in place, and these are the entries and this the length; or it is out of memory
abbrev pub IsRangeInPlace : List SentEntry → ℕ → Result RangeOutcome WireError → Type 0
IsRangeInPlace es len (Ok (ranges.InPlace r)) = (r.entries ≡ es) × (r.len ≡ len)
IsRangeInPlace es len (Ok (ranges.Copied reply n)) = ⊥
IsRangeInPlace es len (Ok ranges.Incomplete) = ⊥
IsRangeInPlace es len (Err errors.Memory) = Unit {0}
IsRangeInPlace es len (Err (errors.Fault fault)) = ⊥

-- the same of a read
abbrev pub IsReadInPlace : List SentStream → ℕ → Result ReadOutcome WireError → Type 0
IsReadInPlace ss len (Ok (reads.InPlace r)) = (r.streams ≡ ss) × (r.len ≡ len)
IsReadInPlace ss len (Ok (reads.Copied reply n)) = ⊥
IsReadInPlace ss len (Ok reads.Incomplete) = ⊥
IsReadInPlace ss len (Err errors.Memory) = Unit {0}
IsReadInPlace ss len (Err (errors.Fault fault)) = ⊥
