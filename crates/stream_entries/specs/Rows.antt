-- The values that read as the entries of a range or a claim.
use Rattle.std.specs.Prelude.{ℕ, List, ◌++◌, map, flat_map, length, nat_eq, Bool, false, Option, Some, None, option_map}
use Rattle.redis_resp.specs.Tree.{Tree}
use Rattle.redis_resp.specs.Reading.{list_reading, traverse}
use Rattle.redis_resp.specs.Table.{Fields, fields_reading, table_reading}
use Rattle.stream_entries.specs.Entry.{Entry, entry_of}

-- the lists, concatenated
abbrev pub joined : {A : Type 0} → List (List A) → List A
joined ls = flat_map (λ l. l) ls

-- the fields of an entry, each with its value as it is
abbrev pub field_reading : Tree → Option (Fields Tree)
field_reading t = fields_reading (λ u. Some u) t

-- a row: a table of ids and their fields
abbrev pub row_reading : Tree → Option (List (List ℕ × Fields Tree))
row_reading t = table_reading field_reading t

-- the standard form of an item: a row, each of whose pairs is an entry
abbrev pub standard_entries : Tree → Option (List Entry)
standard_entries t = option_map (map entry_of) (row_reading t)

-- a list of items, each read by the form, with their entries joined in order
abbrev pub entries_reading : (Tree → Option (List Entry)) → Tree → Option (List Entry)
entries_reading form t = option_map joined (list_reading form t)

-- a range or a claim: a list of rows
unfoldable pub rows_reading : Tree → Option (List Entry)
rows_reading t = entries_reading standard_entries t

-- the entries of the items of a list, each read by the form and joined in order
abbrev pub items_entries : (Tree → Option (List Entry)) → List Tree → Option (List Entry)
items_entries form ts = option_map joined (traverse form ts)

-- the entries of an item, if it can be read, after the entries that are there
abbrev pub appended : List Entry → Option (List Entry) → Option (List Entry)
appended before entries = option_map (λ es. before ++ es) entries
