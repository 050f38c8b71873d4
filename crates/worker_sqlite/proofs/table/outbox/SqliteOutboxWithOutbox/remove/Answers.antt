use Rattle.std.proofs.Common.{◌≡◌, ◌∙◌, ap, subst, ℕ, OnOk}
use Rattle.sqlite.specs.Order.{Row as SqlRow}
use Rattle.sqlite.specs.Values.{bound}
use Rattle.worker_table.specs.RowTable.OfPost.{post_of}
use Rattle.worker_sqlite.specs.Outbox.{remove_text}
use Rattle.worker_sqlite.specs.Statements.{Ran, key_values}
use Rattle.worker_sqlite.proofs.table.outbox.SqliteOutboxWithOutbox.remove.Goals as goal

pub returns-clause-ran : goal.returns-clause-ran
returns-clause-ran g c =
    let old = c.args.self.now.table.conn in
    let new = c.write.new.conn in
    let all : SqlRow = key_values (post_of c.args.post.now).key in
    let values : bound c.deref.result.now ≡ all = ap bound c.deref.ensures.value ∙ c.in_ok-values.ensures in
    subst (λ (row : SqlRow). OnOk c.write.result ((count : ℕ) × Ran g.S.Store old new remove_text row count)) values
    c.write.ensures
