-- The entries of the only stream of a reply.
use Rattle.std.specs.Prelude.{List, [], Option, Some, None}
use Rattle.stream_in_place.specs.Sent.{SentEntry}

-- the borrowed entries of a stream, or an empty list if there is no stream
abbrev pub entries_sent : Option (List SentEntry) → List SentEntry
entries_sent None = []
entries_sent (Some es) = es
