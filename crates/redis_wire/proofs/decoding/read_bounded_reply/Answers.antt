use Rattle.redis_wire.proofs.BoundedLemmas.{few_bytes, over_is, within_is}
use Rattle.redis_wire.proofs.decoding.read_bounded_reply.Goals as goal
use Rattle.redis_wire.proofs.decoding.read_bounded_reply.Goals.{in-TooMany, in-Paused, in-Whole, in-Faulty}

pub returns-then-bytes-limits : goal.returns-then-bytes-limits
returns-then-bytes-limits c = rw (few_bytes c.args.limits c.args.bytes.now c.if-bytes-limits.true) c.reply_at.ensures

pub returns : goal.returns
returns c = elim c.match-branch-2.branch [
  | in-TooMany w ↦ rw w.result-is (over_is c.args.limits c.args.bytes.now (rw w.in-TooMany.is at c.in_ok-start.ensures.is))
  | in-Paused w ↦ rw w.result-is ((rw w.in-Paused.is at c.in_ok-start.ensures.is).early)
  | in-Whole w ↦ rw (
    w.result-is,
    within_is c.args.limits c.args.bytes.now (rw w.in-Whole.is at c.in_ok-start.ensures.is).few,
  ) w.reply_at-in-Whole.ensures
  | in-Faulty w ↦ rw (
    w.result-is,
    within_is c.args.limits c.args.bytes.now (rw w.in-Faulty.is at c.in_ok-start.ensures.is),
  ) w.reply_at-in-Faulty.ensures
]
