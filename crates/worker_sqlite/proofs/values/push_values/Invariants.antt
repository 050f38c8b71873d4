use Rattle.std.proofs.Common.{◌≡◌, ◌++◌, take}
use Rattle.sqlite.specs.Values.{bound}
use Rattle.worker_table.specs.RowTable.OfRow.{cells_of}
use Rattle.worker_sqlite.specs.Statements.{values_of}
use Rattle.worker_sqlite.proofs.values.push_values.Given as goal

abbrev pub invariant-loop-cell : goal.invariant-loop-cell
invariant-loop-cell l = bound l.values.items ≡ bound l.fn.values.items ++ values_of (cells_of (take l.cell-index l.cells))
