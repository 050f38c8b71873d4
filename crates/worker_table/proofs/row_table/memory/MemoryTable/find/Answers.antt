use Rattle.std.proofs.Common.{rules, tests}
use Rattle.std.proofs.lemmas.Iterator.{YieldsList-from_slice}
use Rattle.std.proofs.lemmas.Iterator.Search.{find_from_yields_List}
use Rattle.worker_table.specs.RowTable.OfRow.{key_of}
use Rattle.worker_table.specs.RowTable.Rows.{same_key}
use Rattle.worker_table.proofs.RowTableLemmas.MemoryLemmas.{found_row}
use Rattle.worker_table.proofs.row_table.memory.MemoryTable.find.Goals as goal

pub returns : goal.returns
returns c =
    let key = key_of c.args.row.now in
    let rows = c.args.self.now.rows.items in
    found_row key rows c.find.result
    (find_from_yields_List (λ x. same_key (key_of x) key) _ _ c.find.result c.find.ensures.ran (YieldsList-from_slice rows cc)
    (λ x b q k. search (rules, tests)))
