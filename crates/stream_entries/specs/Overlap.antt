-- Which read replies have a record in both forms, and the entries of an item in each.
use Rattle.std.specs.Prelude.{◌≡◌, ℕ, List, [], ◌∷◌, flat_map, Option, Some, None, option_map, option_and_then}
use Rattle.std.specs.Prelude.{if◌then◌else◌}
use Rattle.std.specs.Option.{IsSome, IsSomeAnd, option_map_or}
use Rattle.std.specs.List.{AllByRecursion}
use Rattle.std.specs.Str.{bytes_eq}
use Rattle.std.specs.FinMap.{empty}
use Rattle.redis_resp.specs.Tree.{Tree, nil, plain, items}
use Rattle.redis_resp.specs.Text.{text_reading}
use Rattle.redis_resp.specs.Number.{unsigned_reading}
use Rattle.redis_resp.specs.Reading.{list_reading, four_in}
use Rattle.redis_resp.specs.Table.{Fields, pairs_reading, table_of, on_values}
use Rattle.stream_entries.specs.Entry.{Entry, entry_of}
use Rattle.stream_entries.specs.Rows.{field_reading}
use Rattle.stream_entries.specs.Read.{Streams}

-- the rows of a read reply: in each, names of streams with the items of their lists
abbrev pub Skeleton : Type 0
Skeleton = List (List (List ℕ × List Tree))

-- a list of rows, whose pairs are read as a text and the items of a list; no item is read
abbrev pub skeleton : Tree → Option Skeleton
skeleton t = list_reading (pairs_reading items) t

-- all items of all lists, also those of a pair whose name is repeated
abbrev pub entries_in : Skeleton → List Tree
entries_in rows = flat_map (λ row. flat_map (λ p. p.1) row) rows

-- the lists that are kept in the rows' tables
abbrev pub kept_lists : Skeleton → List (List ℕ × List Tree)
kept_lists rows = flat_map table_of rows

-- the items of the kept lists
abbrev pub kept_entries : Skeleton → List Tree
kept_entries rows = flat_map (λ p. p.1) (kept_lists rows)

-- a text, fields, a number, and a value that is nil
abbrev pub FourOverlap : Tree × Tree × Tree × Tree → Type 0
FourOverlap q = IsSome (text_reading q.0) × IsSome (field_reading q.1) × IsSome (unsigned_reading 64 q.2)
    × (plain q.3 ≡ nil)

-- an array of these four
abbrev pub HasOverlapShape : Tree → Type 0
HasOverlapShape t = IsSomeAnd (four_in t) FourOverlap

-- a skeleton of the value, each of whose entries has the overlap shape
abbrev pub Overlaps : Tree → Skeleton → Type 0
Overlaps t rows = (skeleton t ≡ Some rows) × AllByRecursion HasOverlapShape (entries_in rows)

-- what an entry of the overlap shape holds: its id, its fields, its number, and the text of its number
pub record OverlapEntry : Type 0 where
  pub id : List ℕ
  pub fields : Fields Tree
  pub number : ℕ
  pub text : List ℕ

-- the same of four elements
abbrev pub four_entry : Tree × Tree × Tree × Tree → Option OverlapEntry
four_entry q =
    option_and_then
    (λ i. option_and_then
    (λ f. option_and_then (λ n. option_map (λ t. record { id = i; fields = f; number = n; text = t })
    (text_reading q.2)) (unsigned_reading 64 q.2)) (field_reading q.1)) (text_reading q.0)

-- the same of an array of four: its id, its fields, and its third item as a number and as a text
abbrev pub overlap_entry : Tree → Option OverlapEntry
overlap_entry t = option_and_then four_entry (four_in t)

-- in the standard record: the id with the fields and the text without fields, or only the second if they are equal
abbrev pub in_standard : OverlapEntry → List Entry
in_standard e = if bytes_eq e.id e.text then entry_of (e.text, empty) ∷ []
    else entry_of (e.id, e.fields) ∷ entry_of (e.text, empty) ∷ []

-- in the claim record: one entry, with the number as the milliseconds since its delivery
abbrev pub in_claim : OverlapEntry → List Entry
in_claim e =
    record { id = e.id; fields = e.fields; milliseconds_elapsed_from_delivery = Some e.number; delivered_count = None }
    ∷ []

-- the entries of an item in a record
abbrev pub given : (OverlapEntry → List Entry) → Tree → List Entry
given form t = option_map_or form (overlap_entry t) []

-- the streams of the kept lists, with the entries of each of their items
abbrev pub streams_given : (OverlapEntry → List Entry) → Skeleton → Streams
streams_given form rows = on_values (flat_map (given form)) (kept_lists rows)
