-- Why an entry is not a row.
use Rattle.std.specs.Prelude.{◌≡◌, ◌<◌, ◌≤◌, ◌^◌, ◌⊎◌, ℕ, Bool, true, false, List, length, get_or, None, Result, Err, string_bytes}
use Rattle.worker_table.specs.RowTable.Rows.{Cell}
use Rattle.worker_table.specs.declared.row_table.cell.Column.{Column}
use Rattle.worker_table.specs.declared.row_table.error.TableError.TheVariants.{Memory, KeyTooLarge, OtherText, Refused}
use Rattle.model_server.specs.Group.Worker.{Entry}
use Rattle.stream_in_place.specs.IdParts.{id_in}
use Rattle.stream_in_place.specs.Sent.{Pairs}
use Rattle.stream_in_place.specs.declared.field_value.FieldError.{FieldError}
use Rattle.worker_table.specs.Cells.{cell_read}
use Rattle.worker_table.specs.declared.columns.CellsError.{CellsError}
use Rattle.worker_table.specs.declared.columns.CellsError.TheVariants as cells
use Rattle.worker_table.specs.Kept.{key_in}
use Rattle.worker_table.specs.declared.handler.Fault.{Fault}
use Rattle.worker_table.specs.declared.handler.Fault.TheVariants as faults
use Rattle.worker_table.specs.declared.columns.ReadError.{ReadError}
use Rattle.worker_table.specs.declared.columns.ReadError.TheVariants as reading

-- memory ran out, or the error is that of `read`
abbrev pub IsWhy : Result Cell FieldError → ReadError → Type 0
IsWhy read reading.Memory = Unit {0}
IsWhy read (reading.Field why) = read ≡ Err why

-- memory ran out, or the field with the name of the column `c` could not be read for this reason
abbrev pub IsWhyOf : Column → Pairs → CellsError → Type 0
IsWhyOf c fields cells.Memory = Unit {0}
IsWhyOf c fields (cells.Field name why) = (string_bytes name ≡ string_bytes c.name) × (cell_read c fields ≡ Err why)

-- memory ran out, or the field with the name of one of the columns could not be read for this reason
abbrev pub IsWhyOfOne : List Column → Pairs → CellsError → Type 0
IsWhyOfOne columns fields cells.Memory = Unit {0}
IsWhyOfOne columns fields (cells.Field name why) = (i : ℕ) × (c : Column) × (i < length columns) × (c ≡ get_or columns i c)
    × (string_bytes name ≡ string_bytes c.name) × (cell_read c fields ≡ Err why)

-- Why the entry `e` is not a row of these columns. The id is not two numbers or is too large, memory ran out,
-- or a field could not be read.
abbrev pub IsFaultOf : List Column → Entry Pairs → Fault → Type 0
IsFaultOf columns e faults.NotAnId = id_in e.0 ≡ None
IsFaultOf columns e (faults.Table Memory) = Unit {0}
IsFaultOf columns e (faults.Table (KeyTooLarge first second)) =
    (key_in e.0 ≡ (first, second)) × ((2 ^ 63 ≤ first) ⊎ (2 ^ 63 ≤ second))
IsFaultOf columns e (faults.Table (OtherText first second)) = ⊥
IsFaultOf columns e (faults.Table (Refused why)) = ⊥
IsFaultOf columns e (faults.Field first second name why) =
    (key_in e.0 ≡ (first, second)) × IsWhyOfOne columns e.1 (cells.Field name why)

-- whether the entry itself cannot be a row because its id or a field does not fit the table
abbrev pub is_unfit : Fault → Bool
is_unfit faults.NotAnId = true
is_unfit (faults.Table Memory) = false
is_unfit (faults.Table (KeyTooLarge first second)) = true
is_unfit (faults.Table (OtherText first second)) = false
is_unfit (faults.Table (Refused why)) = false
is_unfit (faults.Field first second name why) = true

-- the entry `e` itself cannot be a row of these columns, for this reason
abbrev pub IsUnfitFor : List Column → Entry Pairs → Fault → Type 0
IsUnfitFor columns e fault = (is_unfit fault ≡ true) × IsFaultOf columns e fault
