-- The records of lines.
use Rattle.std.specs.Prelude.{◌≡◌, ℕ, List, [], ◌∷◌, map, Option, Some, option_map, unwrap_or, Vec}
use Rattle.std.specs.declared.alloc.Global.{Global}
use Rattle.worker_journal.specs.LastLines.{lines_of}
use Rattle.worker_producer.specs.Records.{Fields, fields_of}
use Rattle.stream_fill.specs.JsonRecord.{record_of_line}
use Rattle.stream_fill.specs.declared.lines.Form.{Form}
use Rattle.stream_fill.specs.declared.lines.Form.TheVariants as forms

-- the type of a record in the code
abbrev pub Record : Type 0
Record = Vec (Vec ℕ Global × Vec ℕ Global) Global

-- `r` is the record of a line: the record of its JSON, or one field with the line as its value
abbrev pub IsRecordOf : Form → List ℕ → Record → Type 0
IsRecordOf forms.Json line r = record_of_line line ≡ Some (fields_of r)
IsRecordOf (forms.Text name) line r = fields_of r ≡ (name.items, line) ∷ []

-- the records are those of the lines, in order
abbrev pub AreRecordsOf : Form → List (List ℕ) → List Record → Type 0
AreRecordsOf form [] [] = Unit {0}
AreRecordsOf form [] (r ∷ rs) = ⊥
AreRecordsOf form (l ∷ ls) [] = ⊥
AreRecordsOf form (l ∷ ls) (r ∷ rs) = IsRecordOf form l r × AreRecordsOf form ls rs

-- the fields of a line's record. A line of JSON that is no record has no fields here, and is never read as a
-- record.
abbrev pub fields_in : Form → List ℕ → Fields
fields_in forms.Json line = unwrap_or (record_of_line line) []
fields_in (forms.Text name) line = (name.items, line) ∷ []

-- all records of a file: one record for each complete line
abbrev pub records_of : Form → Option (List ℕ) → Option (List Fields)
records_of form known = option_map (λ bytes. map (fields_in form) (lines_of bytes)) known
