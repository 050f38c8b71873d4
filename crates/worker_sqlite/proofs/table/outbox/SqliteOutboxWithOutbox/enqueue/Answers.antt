use Rattle.std.proofs.Common.{◌≡◌, ◌∙◌, ap, subst, ℕ, OnOk}
use Rattle.sqlite.specs.Order.{Row as SqlRow}
use Rattle.sqlite.specs.Values.{bound}
use Rattle.worker_table.specs.RowTable.OfPost.{posted_of}
use Rattle.worker_table.specs.RowTable.Posts.{post_for}
use Rattle.worker_sqlite.specs.Outbox.{enqueue_text, post_values}
use Rattle.worker_sqlite.specs.Statements.{Ran}
use Rattle.worker_sqlite.proofs.table.outbox.SqliteOutboxWithOutbox.enqueue.Goals as goal

pub returns-clause-ran : goal.returns-clause-ran
returns-clause-ran g c =
    let old = c.args.self.now.table.conn in
    let new = c.write.new.conn in
    let all : SqlRow = post_values (post_for (posted_of c.args.row.now)) in
    let values : bound c.deref.result.now ≡ all = ap bound c.deref.ensures.value ∙ c.in_ok-values.ensures in
    subst (λ (row : SqlRow). OnOk c.write.result ((count : ℕ) × Ran g.S.Store old new enqueue_text row count)) values
    c.write.ensures
