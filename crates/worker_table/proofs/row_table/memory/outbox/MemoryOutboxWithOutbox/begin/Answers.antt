use Rattle.std.proofs.Common.{Some}
use Rattle.std.proofs.lemmas.Option.{same_Some}
use Rattle.worker_table.proofs.RowTableLemmas.OutboxLemmas.{posts_copied}
use Rattle.worker_table.proofs.row_table.memory.outbox.MemoryOutboxWithOutbox.begin.Goals as goal

pub returns-clause-seen : goal.returns-clause-seen
returns-clause-seen c =
    let rows = same_Some _ _ c.in_ok-begin.ensures.seen in
    let posts = posts_copied c.args.self.now.committed.items c.in_ok-posts.posts.items c.in_ok-posts.ensures.cases.0 in
    λ i. Some (record { rows = rows i; posts = posts i })
