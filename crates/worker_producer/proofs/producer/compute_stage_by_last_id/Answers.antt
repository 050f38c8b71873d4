use Rattle.std.proofs.Common.{◌≡◌, ◌-◌, ◌+◌, ◌≤◌, ap, arith, inl, inr, refl}
use Rattle.redis_wire.specs.Reply.{answer}
use Rattle.model_server.specs.Once.Feed.{knows}
use Rattle.worker_producer.proofs.TakenLemmas.{learnt_last}
use Rattle.worker_producer.proofs.producer.compute_stage_by_last_id.Goals as goal

pub returns-then-last-base-clause-ok : goal.returns-then-last-base-clause-ok
returns-then-last-base-clause-ok c =
    let within : c.in_ok-last.last ≤ c.args.base = omega (arith, c.if-last-base.true) in
    let none : 0 ≡ c.in_ok-last.last - c.args.base = omega (arith, within) in
    learnt_last c.args.base c.args.count (answer c.args.reply) (c.in_ok-last.last, c.in_ok-last.second) _
    c.in_ok-last.ensures.ok (inl within) (ap knows none)

pub returns-clause-ok : goal.returns-clause-ok
returns-clause-ok c =
    let none : c.in_ok-last.second ≡ 0 = omega arith in
    let within : c.in_ok-last.last ≤ c.args.base + c.args.count = omega arith in
    learnt_last c.args.base c.args.count (answer c.args.reply) (c.in_ok-last.last, c.in_ok-last.second) _
    c.in_ok-last.ensures.ok (inr (none, within)) refl
