-- The places of an XAUTOCLAIM reply in the bytes.
use Rattle.std.specs.Prelude.{◌≡◌, ◌≤◌, ◌+◌, ℕ, List, length}
use Rattle.redis_wire.specs.Limits.{default_limits}
use Rattle.stream_in_place.specs.declared.places.AutoClaimPlace.{AutoClaimPlace}
use Rattle.stream_in_place.specs.Held.{Held}
use Rattle.stream_in_place.specs.AutoClaim.{IsAutoClaim, IsJustId}
use Rattle.stream_in_place.specs.Sent.{SentAutoClaim}
use Rattle.stream_in_place.specs.Sent.{all_fields}
use Rattle.stream_in_place.specs.Shapes.{BeginsWithAutoClaim, BeginsWithJustId}
use Rattle.stream_entries.specs.JustId.{JustId}
use Rattle.stream_in_place.specs.ClaimPlaced.{autoclaim_in, justid_in, AreClaimPlaces, AreJustIdPlaces}

-- The first `len` bytes are a reply: its next id is at that place, and the first entries are those that were claimed;
-- the others are the deleted ids.
pub record AutoClaimIn (place : AutoClaimPlace) (bytes : List ℕ) (len : ℕ) (held : Held) : Type 0 where
  pub all : place.len ≡ len
  pub is : IsAutoClaim default_limits bytes (autoclaim_in bytes held.entries held.fields place) len
  pub within : AreClaimPlaces bytes held.entries held.fields place

-- The same for ids only.
pub record JustIdIn (place : AutoClaimPlace) (bytes : List ℕ) (len : ℕ) (held : Held) : Type 0 where
  pub all : place.len ≡ len
  pub is : IsJustId default_limits bytes (justid_in bytes held.entries place) len
  pub within : AreJustIdPlaces bytes held.entries place

-- The bytes begin with a reply of XAUTOCLAIM in the form in which servers write it. There is room for the entries
-- that were claimed, for the deleted ids after them, and for the fields.
pub record AutoClaimFits (bytes : List ℕ) (entry_room field_room : ℕ) : Type 0 where
  pub sent : SentAutoClaim
  pub len : ℕ
  pub begins : BeginsWithAutoClaim default_limits bytes sent len
  pub entries : length sent.claimed + length sent.deleted ≤ entry_room
  pub fields : length (all_fields sent.claimed) ≤ field_room

-- The same for ids only.
pub record JustIdFits (bytes : List ℕ) (entry_room : ℕ) : Type 0 where
  pub sent : JustId
  pub len : ℕ
  pub begins : BeginsWithJustId default_limits bytes sent len
  pub entries : length sent.claimed + length sent.deleted ≤ entry_room
