-- The lines of rows.
use Rattle.std.specs.Prelude.{◌≡◌, ℕ, List, [], ◌++◌, codes, string_bytes, if◌then◌else◌}
use Rattle.std.specs.Str.{bytes_eq}
use Rattle.test_notation.specs.declared.vectors.Row.{Row}

-- the text is the stored one
abbrev pub IsSame : Row → Type 0
IsSame row = string_bytes row.text ≡ string_bytes row.stored

-- the part of a line after its text
abbrev pub difference : Row → List ℕ
difference row = if bytes_eq (string_bytes row.text) (string_bytes row.stored) then []
    else codes " differs from " ++ string_bytes row.stored

-- `name text`, or `name text differs from stored`, and a line feed
abbrev pub line_of : Row → List ℕ
line_of row = string_bytes row.name ++ (codes " " ++ (string_bytes row.text ++ (difference row ++ codes "\n")))
