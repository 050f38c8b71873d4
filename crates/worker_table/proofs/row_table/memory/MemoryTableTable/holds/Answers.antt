use Rattle.std.proofs.Common.{rules}
use Rattle.worker_table.specs.RowTable.OfRow.{key_of, rows_of}
use Rattle.worker_table.specs.RowTable.Rows.{find}
use Rattle.worker_table.proofs.RowTableLemmas.MemoryLemmas.{has_values}
use Rattle.worker_table.proofs.row_table.memory.MemoryTableTable.holds.Goals as goal

pub returns-clause-told : goal.returns-clause-told
returns-clause-told c =
    let row = c.args.row.now in
    has_values c.find.result (find (key_of row) (rows_of c.args.self.now.rows.items)) row.cells.items c.is_some_and.result
    c.find.ensures (search rules)
