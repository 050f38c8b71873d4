-- The content at places, and which places are within the bytes.
use Rattle.std.specs.Prelude.{◌≡◌, ◌≤◌, ◌-◌, ℕ, List, map, take, drop, Bool, true, Option, Some, None, if◌then◌else◌}
use Rattle.std.specs.Str.{is_utf8}
use Rattle.redis_wire.specs.Place.{text_in, IsSpan}
use Rattle.stream_in_place.specs.declared.places.FieldPlace.{FieldPlace}
use Rattle.stream_in_place.specs.declared.places.EntryPlace.{EntryPlace}
use Rattle.stream_in_place.specs.declared.places.StreamPlace.{StreamPlace}
use Rattle.stream_in_place.specs.Sent.{Pairs, SentEntry, SentStream}

-- the name and the value at that place
abbrev pub field_in : List ℕ → FieldPlace → List ℕ × List ℕ
field_in bytes f = (text_in bytes f.name, text_in bytes f.value)

-- the fields of an entry, among all fields
abbrev pub own_fields : List FieldPlace → EntryPlace → List FieldPlace
own_fields fields e = take (e.to - e.from) (drop e.from fields)

-- the fields, or None for nil
abbrev pub fields_if : Bool → Pairs → Option Pairs
fields_if deleted ps = if deleted then None else Some ps

-- the time and the count, if the reply has them
abbrev pub delivery_if : Bool → ℕ → ℕ → Option (ℕ × ℕ)
delivery_if delivered elapsed count = if delivered then Some (elapsed, count) else None

-- the entry at that place
abbrev pub entry_in : List ℕ → List FieldPlace → EntryPlace → SentEntry
entry_in bytes fields e = record {
  id = text_in bytes e.id;
  fields = fields_if e.deleted (map (field_in bytes) (own_fields fields e));
  delivery = delivery_if e.delivered e.elapsed e.count;
}

-- the entries of a stream, among all entries
abbrev pub own_entries : List EntryPlace → StreamPlace → List EntryPlace
own_entries entries s = take (s.to - s.from) (drop s.from entries)

-- the stream at that place
abbrev pub stream_in : List ℕ → List EntryPlace → List FieldPlace → StreamPlace → SentStream
stream_in bytes entries fields s = record {
  name = text_in bytes s.name;
  entries = map (entry_in bytes fields) (own_entries entries s);
}

-- a field within the bytes
pub record IsField (bytes : List ℕ) (f : FieldPlace) : Type 0 where
  pub name : IsSpan bytes f.name
  pub value : IsSpan bytes f.value

-- an entry within the bytes, whose id is text and whose fields are among the first `count`
pub record IsEntry (bytes : List ℕ) (count : ℕ) (e : EntryPlace) : Type 0 where
  pub id : IsSpan bytes e.id
  pub is_text : is_utf8 (text_in bytes e.id) ≡ true
  pub order : e.from ≤ e.to
  pub within : e.to ≤ count

-- a stream within the bytes, whose name is text and whose entries are among the first `count`
pub record IsStream (bytes : List ℕ) (count : ℕ) (s : StreamPlace) : Type 0 where
  pub name : IsSpan bytes s.name
  pub is_text : is_utf8 (text_in bytes s.name) ≡ true
  pub order : s.from ≤ s.to
  pub within : s.to ≤ count
