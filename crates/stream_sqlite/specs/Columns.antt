-- The columns of a table, parsed from the list of `--columns`.
use Rattle.std.specs.Prelude.{◌==◌, ◌∷◌, [], ℕ, Bool, List, None, Option, Some, codes, false, if◌then◌else◌, map, option_map, string_bytes, true}
use Rattle.std.specs.List.{slice_split}
use Rattle.std.specs.Str.{bytes_eq}
use Rattle.command_lines.specs.Words.{Text}
use Rattle.worker_table.specs.declared.row_table.cell.Column.{Column}
use Rattle.worker_table.specs.declared.row_table.cell.Kind.{Kind}
use Rattle.worker_table.specs.declared.row_table.cell.Kind.TheVariants as kinds

-- a column: its name, the kind of its values, and whether a row may have no value there
abbrev pub Shape : Type 0
Shape = Text × Kind × Bool

-- the name, the kind and the optionality of the column
abbrev pub shape_of : Column → Shape
shape_of c = (string_bytes c.name, c.kind, c.optional)

-- the kind that `word` names. With a question mark a row may have no value.
abbrev pub kind_in : Text → Option (Kind × Bool)
kind_in word =
    if bytes_eq word (codes "text") then Some (kinds.Text, false)
    else if bytes_eq word (codes "integer") then Some (kinds.Integer, false)
    else if bytes_eq word (codes "blob") then Some (kinds.Blob, false)
    else if bytes_eq word (codes "text?") then Some (kinds.Text, true)
    else if bytes_eq word (codes "integer?") then Some (kinds.Integer, true)
    else if bytes_eq word (codes "blob?") then Some (kinds.Blob, true)
    else None

-- Puts the byte `b` before the first part of a text that was cut. If `rest` has no colon, the text is cut at
-- `b` if `b` is a colon.
abbrev pub one_before : ℕ → Text → Option (Text × Text) → Option (Text × Text)
one_before b rest (Some parts) = Some (b ∷ parts.0, parts.1)
one_before b rest None = if b == 58 then Some ([], rest) else None

-- the text before its last colon and the text after it, or `None` if there is no colon
abbrev pub at_last_colon : Text → Option (Text × Text)
at_last_colon [] = None
at_last_colon (b ∷ rest) = one_before b rest (at_last_colon rest)

-- the column with this name, or `None` if the kind is not known
abbrev pub named : Text → Option (Kind × Bool) → Option Shape
named name None = None
named name (Some kind) = Some (name, kind.0, kind.1)

-- the column with these two parts, its name and its kind
abbrev pub column_by : Option (Text × Text) → Option Shape
column_by None = None
column_by (Some parts) = named parts.0 (kind_in parts.1)

-- the column of the text NAME:KIND
abbrev pub column_in : Text → Option Shape
column_in part = column_by (at_last_colon part)

-- all columns, or `None` if one of them is `None`
abbrev pub all_of : List (Option Shape) → Option (List Shape)
all_of [] = Some []
all_of (None ∷ more) = None
all_of (Some column ∷ more) = option_map (λ columns. column ∷ columns) (all_of more)

-- the columns of a list, in which commas separate them
abbrev pub columns_in : Text → Option (List Shape)
columns_in list = all_of (map column_in (slice_split (λ b. b == 44) list))

-- the columns of the list, or no columns if there is no list
abbrev pub columns_of : Option Text → Option (List Shape)
columns_of None = Some []
columns_of (Some list) = columns_in list
