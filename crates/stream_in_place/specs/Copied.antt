-- What the copying path keeps of entries as servers send them.
use Rattle.std.specs.Prelude.{◌≡◌, ◌⊎◌, ℕ, List, [], map, Option, Some, None, option_map}
use Rattle.std.specs.FinMap.{from_entries}
use Rattle.redis_resp.specs.Tree.{bulk}
use Rattle.redis_resp.specs.Table.{table_of, on_values}
use Rattle.redis_resp.specs.declared.value.error.ParsingError.{ParsingError}
use Rattle.redis_resp.specs.declared.value.error.ParsingError.TheVariants.{NotText, Memory}
use Rattle.stream_entries.specs.Entry.{Entry}
use Rattle.stream_entries.specs.Read.{Streams}
use Rattle.stream_in_place.specs.Sent.{Pairs, SentEntry, SentStream}

-- the fields, and none of an entry that was deleted
abbrev pub pairs_or_none : Option Pairs → Pairs
pairs_or_none None = []
pairs_or_none (Some ps) = ps

-- the entry of a record: it keeps the last of fields with one name, and no order
abbrev pub copied : SentEntry → Entry
copied e = record {
  id = e.id;
  fields = from_entries (table_of (on_values bulk (pairs_or_none e.fields)));
  milliseconds_elapsed_from_delivery = option_map (λ d. d.0) e.delivery;
  delivered_count = option_map (λ d. d.1) e.delivery;
}

-- why no record is made of entries: a name is not text, or it is out of memory
abbrev pub NotOwned : Type 0 → ParsingError → Type 0
NotOwned named error = ((error ≡ NotText) × (named → ⊥)) ⊎ (error ≡ Memory)

-- the stream of a record
abbrev pub copied_stream : SentStream → List ℕ × List Entry
copied_stream s = (s.name, map copied s.entries)

-- the streams of a record
abbrev pub copied_streams : List SentStream → Streams
copied_streams ss = map copied_stream ss
