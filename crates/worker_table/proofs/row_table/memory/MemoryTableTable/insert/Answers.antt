use Rattle.std.proofs.Common.{◌≡◌, ap, false, is_some, rules, Some}
use Rattle.worker_table.specs.RowTable.OfRow.{key_of, rows_of}
use Rattle.worker_table.specs.RowTable.Rows.{find}
use Rattle.worker_table.proofs.RowTableLemmas.MemoryLemmas.{put_behind}
use Rattle.worker_table.proofs.row_table.memory.MemoryTableTable.insert.Goals as goal

pub returns-clause-seen : goal.returns-clause-seen
returns-clause-seen c =
    let old = c.args.self.now.rows.items in
    let row = c.args.row.now in
    let copy = c.in_ok-clone.ensures.cases in
    let none : is_some (find (key_of row) (rows_of old)) ≡ false = search rules in
    ap Some (put_behind old c.push.new.self.items row c.in_ok-clone.field-0 copy.0 copy.1.0 copy.1.1.0
    c.in_ok-push.ensures.items none)
