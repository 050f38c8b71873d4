-- Texts at places in bytes of the caller.
use Rattle.std.specs.Prelude.{◌+◌, leb, ℕ, List, length, Option, Some, None, if◌then◌else◌}
use Rattle.redis_resp.specs.Reading.{traverse, both_read}
use Rattle.redis_wire.specs.declared.place.Span.{Span}
use Rattle.redis_wire.specs.Place.{text_in}
use Rattle.stream_in_place.specs.declared.places.FieldPlace.{FieldPlace}
use Rattle.stream_in_place.specs.declared.places.EntryPlace.{EntryPlace}

-- the text at a place, if it is within the bytes
abbrev pub text_at : List ℕ → Span → Option (List ℕ)
text_at bytes place = if leb (place.start + place.len) (length bytes) then Some (text_in bytes place) else None

-- the texts at places; `None` if one is not within the bytes
abbrev pub texts_at : List ℕ → List Span → Option (List (List ℕ))
texts_at bytes = traverse (text_at bytes)

-- the ids at the places of entries; `None` if one is not within the bytes
abbrev pub ids_at : List ℕ → List EntryPlace → Option (List (List ℕ))
ids_at bytes = traverse (λ entry. text_at bytes entry.id)

-- the names and values at the places of fields; `None` if one is not within the bytes
abbrev pub fields_at : List ℕ → List FieldPlace → Option (List (List ℕ × List ℕ))
fields_at bytes = traverse (λ field. both_read (text_at bytes field.name) (text_at bytes field.value))
