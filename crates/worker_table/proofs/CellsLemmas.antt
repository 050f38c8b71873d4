-- Why an entry has no values.
use Rattle.std.proofs.Common.{◌≡◌, ℕ, ◌<◌, List, length, get_or}
use Rattle.worker_table.specs.declared.row_table.cell.Column.{Column}
use Rattle.stream_in_place.specs.Sent.{Pairs}
use Rattle.worker_table.specs.Reasons.{IsWhyOf, IsWhyOfOne}
use Rattle.worker_table.specs.declared.columns.CellsError.{CellsError}
use Rattle.worker_table.specs.declared.columns.CellsError.TheVariants.{Memory, Field}

-- the field of one of the columns is not read
pub one_of : (fields : Pairs) (columns : List Column) (i : ℕ) (c : Column) (e : CellsError) → i < length columns
    → c ≡ get_or columns i c → IsWhyOf c fields e → IsWhyOfOne columns fields e
one_of fields columns i c Memory within is why = tt
one_of fields columns i c (Field name reason) within is why = (i, c, within, is, why.0, why.1)
