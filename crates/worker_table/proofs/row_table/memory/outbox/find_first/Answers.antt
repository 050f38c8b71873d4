use Rattle.std.proofs.Common.{◌≡◌, ◌+◌, ap, subst, sym, true, false, Bor, rules}
use Rattle.worker_table.specs.RowTable.OfPost.{post_of}
use Rattle.worker_table.specs.RowTable.Posts.{is_not_behind}
use Rattle.worker_table.specs.declared.row_table.post.Post.{Post}
use Rattle.worker_table.proofs.RowTableLemmas.OutboxLemmas.{IsFirstSoFar, first_changes, first_stays}
use Rattle.worker_table.proofs.row_table.memory.outbox.find_first.Goals as goal
use Rattle.worker_table.proofs.row_table.memory.outbox.find_first.Goals.{then-not-is_in_order, else-not-is_in_order}

pub loop-post-preserved : goal.loop-post-preserved
loop-post-preserved c =
    let posts = c.args.posts.now in
    let at = c.loop-post.post-index in
    let post = c.post-item.result in
    let old = c.loop-post.first.now in
    elim c.if-not-is_in_order.branch [
      | then-not-is_in_order w ↦
          let no : is_not_behind (post_of old).key (post_of post).key ≡ false = search rules in
          subst (IsFirstSoFar posts (at + 1)) (sym (ap (λ (x : Bor Post). x.now) w.first-is))
          (first_changes posts at post old c.loop-post-test.true c.post-item.is c.loop-post.invariant no)
      | else-not-is_in_order w ↦
          let yes : is_not_behind (post_of old).key (post_of post).key ≡ true = search rules in
          subst (IsFirstSoFar posts (at + 1)) (sym (ap (λ (x : Bor Post). x.now) w.first-is))
          (first_stays posts at post old c.loop-post-test.true c.post-item.is c.loop-post.invariant yes)
    ]
