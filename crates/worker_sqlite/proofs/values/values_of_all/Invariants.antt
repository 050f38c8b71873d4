use Rattle.std.proofs.Common.{◌≡◌, flat_map, take}
use Rattle.sqlite.specs.Values.{bound}
use Rattle.worker_table.specs.RowTable.OfRow.{row_of}
use Rattle.worker_sqlite.specs.Statements.{row_values}
use Rattle.worker_sqlite.proofs.values.values_of_all.Given as goal

abbrev pub invariant-loop-row : goal.invariant-loop-row
invariant-loop-row l = bound l.values.items ≡ flat_map (λ row. row_values (row_of row)) (take l.row-index l.rows)
