-- The content at the places of an automatic claim. The deleted ids come after the claimed entries.
use Rattle.std.specs.Prelude.{◌≡◌, ◌≤◌, ℕ, List, map, take, drop, length, true}
use Rattle.std.specs.List.{AllByRecursion}
use Rattle.std.specs.Str.{is_utf8}
use Rattle.redis_wire.specs.Place.{text_in, IsSpan}
use Rattle.stream_entries.specs.JustId.{JustId}
use Rattle.stream_in_place.specs.declared.places.AutoClaimPlace.{AutoClaimPlace}
use Rattle.stream_in_place.specs.declared.places.EntryPlace.{EntryPlace}
use Rattle.stream_in_place.specs.declared.places.FieldPlace.{FieldPlace}
use Rattle.stream_in_place.specs.Sent.{SentAutoClaim}
use Rattle.stream_in_place.specs.Placed.{entry_in, IsField, IsEntry}

-- the id at that place
abbrev pub id_at : List ℕ → EntryPlace → List ℕ
id_at bytes e = text_in bytes e.id

-- the entries and the ids at those places
abbrev pub autoclaim_in : List ℕ → List EntryPlace → List FieldPlace → AutoClaimPlace → SentAutoClaim
autoclaim_in bytes entries fields p = record {
  next = text_in bytes p.next;
  claimed = map (entry_in bytes fields) (take p.claimed entries);
  deleted = map (id_at bytes) (drop p.claimed entries);
}

-- the ids at those places, without entries
abbrev pub justid_in : List ℕ → List EntryPlace → AutoClaimPlace → JustId
justid_in bytes entries p = record {
  next = text_in bytes p.next;
  claimed = map (id_at bytes) (take p.claimed entries);
  deleted = map (id_at bytes) (drop p.claimed entries);
}

-- an id within the bytes, which is text
pub record IsId (bytes : List ℕ) (e : EntryPlace) : Type 0 where
  pub id : IsSpan bytes e.id
  pub is_text : is_utf8 (text_in bytes e.id) ≡ true

-- places within the bytes, of entries and of the ids after them
pub record AreClaimPlaces (bytes : List ℕ) (entries : List EntryPlace) (fields : List FieldPlace)
    (p : AutoClaimPlace) : Type 0 where
  pub next : IsSpan bytes p.next
  pub is_text : is_utf8 (text_in bytes p.next) ≡ true
  pub count : p.claimed ≤ length entries
  pub claimed : AllByRecursion (IsEntry bytes (length fields)) (take p.claimed entries)
  pub deleted : AllByRecursion (IsId bytes) (drop p.claimed entries)
  pub each_field : AllByRecursion (IsField bytes) fields

-- places within the bytes, of ids only
pub record AreJustIdPlaces (bytes : List ℕ) (entries : List EntryPlace) (p : AutoClaimPlace) : Type 0 where
  pub next : IsSpan bytes p.next
  pub is_text : is_utf8 (text_in bytes p.next) ≡ true
  pub count : p.claimed ≤ length entries
  pub claimed : AllByRecursion (IsId bytes) (take p.claimed entries)
  pub deleted : AllByRecursion (IsId bytes) (drop p.claimed entries)
