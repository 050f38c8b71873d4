-- The values of the row of an entry.
use Rattle.std.specs.Prelude.{ℕ, List, [], ◌∷◌, map, Bool, Option, Some, None, Result, Ok, Err}
use Rattle.std.specs.Prelude.{if◌then◌else◌, string_bytes}
use Rattle.json.specs.Print.{print}
use Rattle.redis_resp.specs.Table.{last_with}
use Rattle.worker_table.specs.RowTable.Rows.{Cell, null, integer, text, blob}
use Rattle.worker_table.specs.declared.row_table.cell.Column.{Column}
use Rattle.worker_table.specs.declared.row_table.cell.Kind.{Kind}
use Rattle.worker_table.specs.declared.row_table.cell.Kind.TheVariants as kinds
use Rattle.stream_in_place.specs.FieldValue.{text_value, signed_value}
use Rattle.stream_in_place.specs.Sent.{Pairs}
use Rattle.stream_in_place.specs.declared.field_value.FieldError.{FieldError}
use Rattle.stream_in_place.specs.declared.field_value.FieldError.TheVariants.{Missing, NotText, NotNumber}
use Rattle.worker.specs.EntryJson.{fields_tokens}

-- the cell of a value, or the error of the reading
abbrev pub cell_by : {X : Type 0} → (X → Cell) → Result X FieldError → Result Cell FieldError
cell_by cell (Ok x) = Ok (cell x)
cell_by cell (Err e) = Err e

-- the bytes of a field, or the error that the field is missing
abbrev pub bytes_value : Option (List ℕ) → Result (List ℕ) FieldError
bytes_value None = Err Missing
bytes_value (Some bytes) = Ok bytes

-- the value of a field for a column of this kind. A text must be UTF-8, and an integer must fit a signed number
-- of 64 bits.
abbrev pub value_read : Kind → Option (List ℕ) → Result Cell FieldError
value_read kinds.Text value = cell_by text (text_value value)
value_read kinds.Integer value = cell_by integer (signed_value value)
value_read kinds.Blob value = cell_by blob (bytes_value value)

-- a missing field is null if the column is optional
abbrev pub or_none : Bool → Result Cell FieldError → Result Cell FieldError
or_none optional (Ok cell) = Ok cell
or_none optional (Err Missing) = if optional then Ok null else Err Missing
or_none optional (Err NotText) = Err NotText
or_none optional (Err NotNumber) = Err NotNumber

-- the value of an entry for the column `c`, read from the last field with its name, or why it could not be read
abbrev pub cell_read : Column → Pairs → Result Cell FieldError
cell_read c fields = or_none c.optional (value_read c.kind (last_with (string_bytes c.name) fields))

-- the value that was read, or null. No handler makes a row of a value that could not be read.
abbrev pub cell_or_none : Result Cell FieldError → Cell
cell_or_none (Ok cell) = cell
cell_or_none (Err e) = null

-- the value of the fields for the column `c`
abbrev pub cell_in : Pairs → Column → Cell
cell_in fields c = cell_or_none (cell_read c fields)

-- the values of an entry: one text of all fields if there are no columns, and else one value for each column
abbrev pub cells_in : List Column → Pairs → List Cell
cells_in [] fields = text (print (fields_tokens fields)) ∷ []
cells_in (c ∷ cs) fields = map (cell_in fields) (c ∷ cs)
