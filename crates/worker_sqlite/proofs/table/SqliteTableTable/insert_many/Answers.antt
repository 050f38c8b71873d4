use Rattle.std.proofs.Common.{◌≡◌, ◌∙◌, ap, subst, ℕ, List, IfOk, flat_map, string_bytes}
use Rattle.sqlite.specs.Order.{Row as SqlRow}
use Rattle.sqlite.specs.Values.{bound}
use Rattle.worker_table.specs.RowTable.OfRow.{row_of}
use Rattle.worker_table.specs.declared.row_table.row.Row.{Row}
use Rattle.worker_sqlite.specs.Statements.{RanAll, row_values}
use Rattle.worker_sqlite.proofs.table.SqliteTableTable.insert_many.Goals as goal

pub returns-clause-ran : goal.returns-clause-ran
returns-clause-ran g c =
    let old = c.args.self.now.conn in
    let new = c.insert_many.new.conn in
    let all : SqlRow = flat_map (λ (row : Row). row_values (row_of row)) c.args.rows.now in
    let sql : c.deref.result.now ≡ string_bytes c.args.self.now.form.insert_many = search in
    let filled : bound c.in_ok-values.values.items ≡ all = c.in_ok-values.ensures in
    let values : bound c.deref-2.result.now ≡ all = ap bound c.deref-2.ensures.value ∙ filled in
    subst (λ (text : List ℕ). IfOk c.insert_many.result (RanAll g.S.Store old new text all)) sql
    (subst (λ (row : SqlRow). IfOk c.insert_many.result (RanAll g.S.Store old new c.deref.result.now row)) values
    c.insert_many.ensures.ran)
