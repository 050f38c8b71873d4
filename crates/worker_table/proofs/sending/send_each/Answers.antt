use Rattle.std.proofs.Common.{◌∙◌, refl}
use Rattle.worker_table.specs.Forwarded.{none}
use Rattle.worker_table.proofs.SendLemmas.{one_went}
use Rattle.worker_table.proofs.sending.send_each.Goals as goal

pub loop-init : goal.loop-init
loop-init g c = (none c.args.connection.now (g.T.WithOutbox.seen c.args.table.now), refl, λ left now. now)

pub loop-preserved : goal.loop-preserved
loop-preserved g c =
    let seen = g.T.WithOutbox.seen in
    let before = c.loop.invariant in (
      one_went c.args.connection.now c.loop.connection c.send_post.new.connection (seen c.args.table.now)
          (seen c.loop.table) (seen c.first.new.self) (seen c.remove.new.self) c.in_ok-post.field-0 c.in-Some.post before.0
          c.in_ok-post.ensures.first c.in-Some.is c.in_default-send_post.ensures c.in_ok-post.ensures.seen
          c.in_ok-remove.ensures.seen,
      c.remove.ensures.committed ∙ (c.first.ensures.committed ∙ before.1),
      λ left now. before.2 left (c.first.ensures.crash left (c.remove.ensures.crash left now)),
    )
