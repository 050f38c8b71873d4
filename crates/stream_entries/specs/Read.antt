-- The values that read as the streams of a read reply: a list of rows, all of whose entries have one form.
use Rattle.std.specs.Prelude.{ℕ, List, [], ◌∷◌, Option, option_map}
use Rattle.std.specs.Option.{option_or}
use Rattle.redis_resp.specs.Tree.{Tree}
use Rattle.redis_resp.specs.Text.{text_reading}
use Rattle.redis_resp.specs.Number.{unsigned_reading}
use Rattle.redis_resp.specs.Reading.{list_reading, option_reading, four_reading}
use Rattle.redis_resp.specs.Table.{Fields, table_reading}
use Rattle.stream_entries.specs.Entry.{Entry}
use Rattle.stream_entries.specs.Rows.{joined, field_reading, standard_entries, entries_reading}

-- an id, its fields, the milliseconds since its last delivery and its delivery count
abbrev pub Delivery : Type 0
Delivery = List ℕ × Fields Tree × Option ℕ × Option ℕ

-- an array of these four; each of the two numbers may be nil
abbrev pub delivery_reading : Tree → Option Delivery
delivery_reading t = four_reading text_reading field_reading (option_reading (unsigned_reading 64))
    (option_reading (unsigned_reading 64)) t

-- the entry of a delivery
abbrev pub delivered_entry : Delivery → Entry
delivered_entry d = record { id = d.0; fields = d.1; milliseconds_elapsed_from_delivery = d.2; delivered_count = d.3 }

-- the claim form of an item: a delivery, which is one entry
abbrev pub claim_entries : Tree → Option (List Entry)
claim_entries t = option_map (λ d. delivered_entry d ∷ []) (delivery_reading t)

-- names of streams, each with its entries, in order
abbrev pub Streams : Type 0
Streams = List (List ℕ × List Entry)

-- a list of rows; each pair of a row's table is a stream with a list of items, all of one form
abbrev pub streams_reading : (Tree → Option (List Entry)) → Tree → Option Streams
streams_reading form t = option_map joined (list_reading (table_reading (entries_reading form)) t)

-- the streams of a value all of whose items have the standard form
unfoldable pub standard_reading : Tree → Option Streams
standard_reading t = streams_reading standard_entries t

-- the streams of a value all of whose items have the claim form
unfoldable pub claim_reading : Tree → Option Streams
claim_reading t = streams_reading claim_entries t

-- the standard record if the whole value has one, else the claim record
abbrev pub read_reading : Tree → Option Streams
read_reading t = option_or (standard_reading t) (claim_reading t)
