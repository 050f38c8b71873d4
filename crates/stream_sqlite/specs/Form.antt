-- The statements of the table that the options define.
use Rattle.std.specs.Prelude.{◌≡◌, ◌∷◌, [], Bool, List, codes, false, string_bytes, true}
use Rattle.std.specs.Str.{bytes_eq}
use Rattle.command_lines.specs.Words.{Text}
use Rattle.worker_sqlite.specs.Form.{IsFormOf, IsUsual}
use Rattle.worker_sqlite.specs.declared.form.Form.{Form}
use Rattle.worker_table.specs.declared.row_table.cell.Column.{Column}
use Rattle.worker_table.specs.declared.row_table.cell.Kind.TheVariants.{Text as OfText}

-- `c` is the column `fields` of texts
pub record IsFields (c : Column) : Type 0 where
  pub name : string_bytes c.name ≡ codes "fields"
  pub kind : c.kind ≡ OfText
  pub optional : c.optional ≡ false

-- A table without columns of its own. The table `entries` has the usual statements, and any other table has one
-- column `fields`.
abbrev pub IsFormOfNone : Bool → Text → Form → Type 0
IsFormOfNone true name form = IsUsual form
IsFormOfNone false name form = (c : Column) × IsFields c × IsFormOf name (c ∷ []) form

-- `form` contains the statements of the table called `name` with these columns
abbrev pub IsFormFor : Text → List Column → Form → Type 0
IsFormFor name [] form = IsFormOfNone (bytes_eq name (codes "entries")) name form
IsFormFor name (c ∷ columns) form = IsFormOf name (c ∷ columns) form
