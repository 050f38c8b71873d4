use Rattle.worker.specs.Outbox.Sent.{Replied}
use Rattle.worker.proofs.outbox.outbox.take_replies.Given as goal

-- so many replies came
abbrev pub invariant-loop-count : goal.invariant-loop-count
invariant-loop-count g l = Replied l.count l.fn.connection l.connection
