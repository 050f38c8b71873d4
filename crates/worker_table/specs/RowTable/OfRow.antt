-- The key and the values of a row in memory.
use Rattle.std.specs.Prelude.{List, map}
use Rattle.worker_table.specs.RowTable.Rows as rows
use Rattle.worker_table.specs.declared.row_table.cell.Cell as memory
use Rattle.worker_table.specs.declared.row_table.cell.Cell.TheVariants.{Null, Integer, Text, Blob}
use Rattle.worker_table.specs.declared.row_table.row.Row.{Row}

-- the value of a cell
abbrev pub cell_of : memory.Cell → rows.Cell
cell_of Null = rows.null
cell_of (Integer n) = rows.integer n
cell_of (Text bytes) = rows.text bytes.items
cell_of (Blob bytes) = rows.blob bytes.items

-- the values of the cells, in order
abbrev pub cells_of : List memory.Cell → List rows.Cell
cells_of cells = map cell_of cells

-- the key of the row: its two numbers
abbrev pub key_of : Row → rows.Key
key_of r = (r.first, r.second)

-- the key and the values of the row
abbrev pub row_of : Row → rows.Row
row_of r = (key_of r, cells_of r.cells.items)

-- the keys and the values of the rows, in order
abbrev pub rows_of : List Row → List rows.Row
rows_of rs = map row_of rs
