-- The result of reading the reply of an automatic claim of any shape.
use Rattle.std.specs.Prelude.{◌≡◌, ◌≤◌, ℕ, List, ◌++◌, length, take, Result, Ok, Err}
use Rattle.redis_wire.specs.declared.limits.Limits.{Limits}
use Rattle.redis_wire.specs.declared.fault.WireError.{WireError}
use Rattle.redis_wire.specs.declared.fault.WireError.TheVariants as errors
use Rattle.redis_wire.specs.Reply.{Answer}
use Rattle.redis_wire.specs.Grammar.{IsReply}
use Rattle.redis_wire.specs.Decoded.{NoReply, EndTooEarly, IsFirstFault}
use Rattle.redis_wire.specs.Record.{IsRecord}
use Rattle.stream_entries.specs.AutoClaim.{autoclaim_reading}
use Rattle.stream_entries.specs.AutoClaimMeaning.{autoclaim_meaning}
use Rattle.stream_entries.specs.JustId.{JustId, RefusesJustId, justid_reading}
use Rattle.stream_entries.specs.JustIdMeaning.{justid_meaning}
use Rattle.stream_entries.specs.Refusal.{RefusesAutoClaim}
use Rattle.stream_in_place.specs.declared.claim_outcome.AutoClaimOutcome.{AutoClaimOutcome}
use Rattle.stream_in_place.specs.declared.claim_outcome.AutoClaimOutcome.TheVariants as claims
use Rattle.stream_in_place.specs.declared.claim_outcome.JustIdOutcome.{JustIdOutcome}
use Rattle.stream_in_place.specs.declared.claim_outcome.JustIdOutcome.TheVariants as justids
use Rattle.stream_in_place.specs.AutoClaim.{IsAutoClaim, IsJustId}
use Rattle.stream_in_place.specs.Sent.{SentAutoClaim}

-- in place; or the record of the reply at the start, its refusal or the server's error; or the bytes end too
-- early; or the first fault, after which the bytes are no reply, whatever follows them
abbrev pub IsAutoClaimOutcome : Limits → List ℕ → Result AutoClaimOutcome WireError → Type 0
IsAutoClaimOutcome limits bytes (Ok (claims.InPlace r)) =
    IsAutoClaim limits bytes (record { next = r.next_stream_id.now; claimed = r.claimed; deleted = r.deleted_ids }) r.len
IsAutoClaimOutcome limits bytes (Ok (claims.Copied reply len)) =
    (a : Answer) × (len ≤ length bytes) × IsReply limits (take len bytes) a
    × IsRecord autoclaim_reading RefusesAutoClaim autoclaim_meaning a reply
IsAutoClaimOutcome limits bytes (Ok claims.Incomplete) = NoReply limits bytes × EndTooEarly limits bytes
IsAutoClaimOutcome limits bytes (Err errors.Memory) = Unit {0}
IsAutoClaimOutcome limits bytes (Err (errors.Fault fault)) =
    ((more : List ℕ) → NoReply limits (bytes ++ more)) × IsFirstFault limits bytes (errors.Fault fault)

-- the same with `JUSTID`
abbrev pub IsJustIdOutcome : Limits → List ℕ → Result JustIdOutcome WireError → Type 0
IsJustIdOutcome limits bytes (Ok (justids.InPlace r)) =
    IsJustId limits bytes (record { next = r.next_stream_id.now; claimed = r.claimed; deleted = r.deleted_ids }) r.len
IsJustIdOutcome limits bytes (Ok (justids.Copied reply len)) =
    (a : Answer) × (len ≤ length bytes) × IsReply limits (take len bytes) a
    × IsRecord justid_reading RefusesJustId justid_meaning a reply
IsJustIdOutcome limits bytes (Ok justids.Incomplete) = NoReply limits bytes × EndTooEarly limits bytes
IsJustIdOutcome limits bytes (Err errors.Memory) = Unit {0}
IsJustIdOutcome limits bytes (Err (errors.Fault fault)) =
    ((more : List ℕ) → NoReply limits (bytes ++ more)) × IsFirstFault limits bytes (errors.Fault fault)

-- in place, and this is the reply and its length; or it is out of memory
abbrev pub IsAutoClaimInPlace : SentAutoClaim → ℕ → Result AutoClaimOutcome WireError → Type 0
IsAutoClaimInPlace r len (Ok (claims.InPlace found)) = (record {
  next = found.next_stream_id.now;
  claimed = found.claimed;
  deleted = found.deleted_ids;
} ≡ r) × (found.len ≡ len)
IsAutoClaimInPlace r len (Ok (claims.Copied reply n)) = ⊥
IsAutoClaimInPlace r len (Ok claims.Incomplete) = ⊥
IsAutoClaimInPlace r len (Err errors.Memory) = Unit {0}
IsAutoClaimInPlace r len (Err (errors.Fault fault)) = ⊥

-- the same with `JUSTID`
abbrev pub IsJustIdInPlace : JustId → ℕ → Result JustIdOutcome WireError → Type 0
IsJustIdInPlace r len (Ok (justids.InPlace found)) = (record {
  next = found.next_stream_id.now;
  claimed = found.claimed;
  deleted = found.deleted_ids;
} ≡ r) × (found.len ≡ len)
IsJustIdInPlace r len (Ok (justids.Copied reply n)) = ⊥
IsJustIdInPlace r len (Ok justids.Incomplete) = ⊥
IsJustIdInPlace r len (Err errors.Memory) = Unit {0}
IsJustIdInPlace r len (Err (errors.Fault fault)) = ⊥
