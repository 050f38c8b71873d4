-- The streams of a decoded reply.
use Rattle.std.specs.Prelude.{List, map, flat_map, String, Vec, string_bytes}
use Rattle.std.specs.declared.alloc.Global.{Global}
use Rattle.redis_resp.specs.declared.value.pair.PairList.{PairList}
use Rattle.stream_in_place.specs.Sent.{SentStream}
use Rattle.stream_in_place.specs.SentMeaning.{sent_all}
use Rattle.stream_in_place.specs.declared.sent.SentRow.{SentRow}

-- a stream with its name and its entries
abbrev pub named : String Global × Vec SentRow Global → SentStream
named p = record { name = string_bytes p.0; entries = sent_all p.1 }

-- the streams of all lists, in order
abbrev pub streams_named : Vec (PairList (Vec SentRow Global)) Global → List SentStream
streams_named lists = flat_map (λ l. map named l.0.items) lists.items
