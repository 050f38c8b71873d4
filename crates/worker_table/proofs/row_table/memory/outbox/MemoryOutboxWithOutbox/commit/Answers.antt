use Rattle.std.proofs.Common.{◌≡◌, ◌∙◌, inr, take, Some}
use Rattle.std.proofs.lemmas.Option.{same_Some}
use Rattle.worker_table.specs.RowTable.OfPost.{stored_of}
use Rattle.worker_table.proofs.RowTableLemmas.OutboxLemmas.{posts_copied}
use Rattle.worker_table.proofs.row_table.memory.outbox.MemoryOutboxWithOutbox.commit.Goals as goal
use Rattle.worker_table.proofs.row_table.memory.outbox.MemoryOutboxWithOutbox.commit.Goals.{After-drop-self}

same : (c : After-drop-self)
    → stored_of (take c.commit.new.self.committed c.commit.new.self.rows.items) c.in_ok-posts.posts.items
    ≡ stored_of c.args.self.now.table.rows.items c.args.self.now.posts.items
same c =
    let rows = same_Some _ _ c.in_ok-commit.ensures.ok in
    let posts = posts_copied c.args.self.now.posts.items c.in_ok-posts.posts.items c.in_ok-posts.ensures.cases.0 in
    λ i. record { rows = rows i; posts = posts i }

pub returns-clause-ok : goal.returns-clause-ok
returns-clause-ok c = λ i. Some (same c i)

pub returns-clause-durable : goal.returns-clause-durable
returns-clause-durable c left is = is ∙ same c

pub returns-clause-crash : goal.returns-clause-crash
returns-clause-crash c left is = inr (is ∙ same c)
