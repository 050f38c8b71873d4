use Rattle.std.proofs.Common.{refl, Some}
use Rattle.std.proofs.lemmas.List.Elements.{same_from_all_zip}
use Rattle.worker_table.specs.RowTable.OfRow.{rows_of}
use Rattle.worker_table.proofs.RowTableLemmas.OutboxLemmas.{post_behind}
use Rattle.worker_table.proofs.row_table.memory.outbox.MemoryOutboxWithOutbox.enqueue.Goals as goal

pub returns-clause-seen : goal.returns-clause-seen
returns-clause-seen c =
    let o = c.args.self.now in
    let row = c.args.row.now in
    let command = c.in_ok-clone.field-0 in
    let question = c.in_ok-clone-2.field-0 in
    let posts = post_behind o.posts.items c.push.new.self.items
    record { first = row.row.first; second = row.row.second; command = command; question = question } row refl refl
    (same_from_all_zip _ row.command.items command.items c.in_ok-clone.ensures.cases.0 (λ a b e. e))
    (same_from_all_zip _ row.question.items question.items c.in_ok-clone-2.ensures.cases.0 (λ a b e. e))
    c.in_ok-push.ensures.items in
    λ i. Some (record { rows = rows_of o.table.rows.items; posts = posts i })
