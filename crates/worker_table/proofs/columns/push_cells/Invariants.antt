use Rattle.std.proofs.Common.{◌≡◌, ◌++◌, take, map}
use Rattle.worker_table.specs.RowTable.OfRow.{cells_of}
use Rattle.stream_in_place.specs.Copied.{pairs_or_none}
use Rattle.worker_table.specs.Cells.{cell_in}
use Rattle.worker_table.proofs.columns.push_cells.Given as goal

abbrev pub invariant-loop-column : goal.invariant-loop-column
invariant-loop-column l = cells_of l.cells.items
    ≡ cells_of l.fn.cells.items ++ map (cell_in (pairs_or_none l.entry.fields)) (take l.column-index l.columns)
