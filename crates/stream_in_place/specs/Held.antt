-- Tables of places.
use Rattle.std.specs.Prelude.{List, []}
use Rattle.stream_in_place.specs.declared.places.FieldPlace.{FieldPlace}
use Rattle.stream_in_place.specs.declared.places.EntryPlace.{EntryPlace}
use Rattle.stream_in_place.specs.declared.places.StreamPlace.{StreamPlace}

-- the places of streams, of the entries of all of them, and of the fields of all of these
pub record Held : Type 0 where
  pub streams : List StreamPlace
  pub entries : List EntryPlace
  pub fields : List FieldPlace

-- no places
abbrev pub none_held : Held
none_held = record { streams = []; entries = []; fields = [] }
