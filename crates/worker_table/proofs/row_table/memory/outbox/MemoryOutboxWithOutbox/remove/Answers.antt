use Rattle.std.proofs.Common.{◌≡◌, ◌∙◌, ap, filter, map, not, rules, tests, Some}
use Rattle.std.proofs.lemmas.Fn.{filter_same}
use Rattle.worker_table.specs.RowTable.OfPost.{post_of}
use Rattle.worker_table.specs.RowTable.OfRow.{rows_of}
use Rattle.worker_table.specs.RowTable.Rows.{same_key}
use Rattle.worker_table.proofs.RowTableLemmas.OutboxLemmas.{others_left}
use Rattle.worker_table.proofs.row_table.memory.outbox.MemoryOutboxWithOutbox.remove.Goals as goal

pub returns-clause-seen : goal.returns-clause-seen
returns-clause-seen c =
    let o = c.args.self.now in
    let key = (post_of c.args.post.now).key in
    let kept : c.retain.new.self.items ≡ filter (λ p. not (same_key (post_of p).key key)) o.posts.items =
    filter_same _ (λ p. not (same_key (post_of p).key key)) _ (λ x b q k. search (rules, tests)) _ _ c.retain.ensures.filtered in
    let posts = ap (map post_of) kept ∙ others_left key o.posts.items in
    λ i. Some (record { rows = rows_of o.table.rows.items; posts = posts i })
