-- What the entries that a reply holds mean.
use Rattle.std.specs.Prelude.{ℕ, List, map, Option, option_map, Vec, String, string_bytes}
use Rattle.std.specs.declared.alloc.Global.{Global}
use Rattle.std.specs.HashMap.{HashMap}
use Rattle.redis_resp.specs.Tree.{Tree}
use Rattle.redis_resp.specs.FieldsMeaning.{fields_of}
use Rattle.redis_resp.specs.Table.{Fields, entries_meaning}
use Rattle.redis_resp.specs.declared.value.Value.{Value}
use Rattle.stream_entries.specs.Entry.{Entry}
use Rattle.stream_entries.specs.Read.{Delivery}
use Rattle.stream_entries.specs.declared.stream_id.StreamId.{StreamId}

-- the ids of a row, each with its fields
abbrev pub row_of : {S W : Type 0} → HashMap (String Global) (HashMap (String Global) Value S) W
    → List (List ℕ × Fields Tree)
row_of row = entries_meaning fields_of row.entries

-- what the four parts of a delivery mean
abbrev pub delivery_of : {S : Type 0} → String Global × HashMap (String Global) Value S × Option ℕ × Option ℕ → Delivery
delivery_of d = (string_bytes d.0, fields_of d.1, option_map (λ n. n) d.2, option_map (λ n. n) d.3)

-- the entry that a `StreamId` holds
abbrev pub entry_meaning : StreamId → Entry
entry_meaning s = record {
  id = string_bytes s.id;
  fields = fields_of s.map;
  milliseconds_elapsed_from_delivery = s.milliseconds_elapsed_from_delivery;
  delivered_count = s.delivered_count;
}

-- the entries of a list of them, in order
abbrev pub entries_of : Vec StreamId Global → List Entry
entries_of ids = map entry_meaning ids.items
