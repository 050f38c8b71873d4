-- The number of places that the entries of streams have in tables.
use Rattle.std.specs.Prelude.{◌≡◌, List, length}
use Rattle.stream_in_place.specs.Held.{Held}
use Rattle.stream_in_place.specs.Sent.{SentStream, all_entries, all_stream_fields}

-- The tables hold as many entries as these streams have, and as many fields as all those entries have.
pub record HoldSoMany (held : Held) (ss : List SentStream) : Type 0 where
  pub entries : length held.entries ≡ length (all_entries ss)
  pub fields : length held.fields ≡ length (all_stream_fields ss)
