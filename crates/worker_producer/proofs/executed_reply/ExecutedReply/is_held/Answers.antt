use Rattle.std.proofs.Common.{◌≡◌, ◌∙◌, ◌<◌, ◌≤◌, ◌^◌, ℕ, subst, take}
use Rattle.redis_wire.specs.declared.limits.Limits.{Limits}
use Rattle.worker_producer.proofs.ExecutedLemmas.{executed_there}
use Rattle.worker_producer.proofs.executed_reply.ExecutedReply.is_held.Goals as goal

pub returns : goal.returns
returns g c is =
    let n = c.args.self.now.sent in
    let allowed = c.if-not-allows_ids.false in
    let link = c.args.connection.now in
    let bytes = c.received.result.now in
    executed_there link n c.args.self.now.bytes.items bytes
    (subst (λ (k : ℕ). k ≤ link.in_place → bytes ≡ take k link.held.bytes) c.len.ensures c.received.ensures.within)
    (subst (λ (k : ℕ). link.in_place ≤ k → bytes ≡ take link.in_place link.held.bytes) c.len.ensures
    c.received.ensures.all) (c.are_same.ensures is ∙ c.deref.ensures.value) c.args.self.now.before
    c.args.self.now.fits c.args.self.now.is
    (subst (λ (l : Limits). l.length < 2 ^ 32) c.limits.ensures (c.allows_ids.ensures.bound allowed))
    (subst (λ (l : Limits). 2 ≤ l.depth) c.limits.ensures (c.allows_ids.ensures.depth allowed))
    (subst (λ (l : Limits). 20 ≤ l.line) c.limits.ensures (c.allows_ids.ensures.line allowed))
    (subst (λ (l : Limits). 22 ≤ l.length) c.limits.ensures (c.allows_ids.ensures.id allowed))
    (subst (λ (l : Limits). n ≤ l.length) c.limits.ensures (c.allows_ids.ensures.count allowed))
    (subst (λ (l : Limits). n < l.values) c.limits.ensures (c.allows_ids.ensures.values allowed))
