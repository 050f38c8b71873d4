-- What the streams that a reply holds mean.
use Rattle.std.specs.Prelude.{ℕ, List, map, Vec, string_bytes}
use Rattle.std.specs.declared.alloc.Global.{Global}
use Rattle.stream_entries.specs.Entry.{Entry}
use Rattle.stream_entries.specs.Read.{Streams}
use Rattle.stream_entries.specs.EntryMeaning.{entries_of}
use Rattle.stream_entries.specs.declared.stream_key.StreamKey.{StreamKey}

-- the stream that a `StreamKey` holds: its name and its entries
abbrev pub stream_key_meaning : StreamKey → List ℕ × List Entry
stream_key_meaning k = (string_bytes k.key, entries_of k.ids)

-- the streams of a list of them, in order
abbrev pub streams_of : Vec StreamKey Global → Streams
streams_of keys = map stream_key_meaning keys.items
