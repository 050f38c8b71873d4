-- The statements of a table without columns of its own.
use Rattle.std.proofs.Common.{◌≡◌, ◌∷◌, [], Bool, List, codes, false, subst, sym}
use Rattle.std.specs.Str.{bytes_eq}
use Rattle.command_lines.specs.Words.{Text}
use Rattle.worker_sqlite.specs.Form.{IsFormOf}
use Rattle.worker_sqlite.specs.declared.form.Form.{Form}
use Rattle.worker_table.specs.declared.row_table.cell.Column.{Column}
use Rattle.stream_sqlite.specs.Form.{IsFields, IsFormFor, IsFormOfNone}

-- a table that is not the usual one has the column `fields`
pub of_fields : (name : Text) (columns : List Column) (column : Column) (form : Form) → columns ≡ []
    → bytes_eq name (codes "entries") ≡ false → IsFields column → IsFormOf name (column ∷ []) form
    → IsFormFor name columns form
of_fields name columns column form none other is of =
    subst (λ (cs : List Column). IsFormFor name cs form) (sym none)
    (subst (λ (b : Bool). IsFormOfNone b name form) (sym other) (column, is, of))
