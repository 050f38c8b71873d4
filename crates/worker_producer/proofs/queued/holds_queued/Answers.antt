use Rattle.std.proofs.Common.{◌<◌, ◌≤◌, subst}
use Rattle.redis_wire.specs.declared.limits.Limits.{Limits}
use Rattle.worker_producer.proofs.QueuedLemmas.{queued_there}
use Rattle.worker_producer.proofs.queued.holds_queued.Goals as goal

pub returns : goal.returns
returns g c is =
    let allowed = c.if-not-allows_line.false in
    queued_there c.args.connection.now c.received.result.now c.received.ensures.within c.received.ensures.all
    (c.is_queued.ensures is) (subst (λ (l : Limits). 0 < l.depth) c.limits.ensures (c.allows_line.ensures.depth allowed))
    (subst (λ (l : Limits). 6 ≤ l.line) c.limits.ensures (c.allows_line.ensures.line allowed))
    (subst (λ (l : Limits). 1 ≤ l.values) c.limits.ensures (c.allows_line.ensures.values allowed))
