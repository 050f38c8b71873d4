use Rattle.std.proofs.Common.{arith}
use Rattle.worker.proofs.OutboxLemmas.SentLemmas.{one_more_reply}
use Rattle.worker.proofs.outbox.outbox.take_replies.Goals as goal

pub returns-in-Err-clause-some : goal.returns-in-Err-clause-some
returns-in-Err-clause-some g c = (
  omega (arith, c.loop-count-test.true),
  (c.loop-count.connection, c.loop-count.invariant, c.in-Err.ensures.err),
)

pub loop-count-preserved : goal.loop-count-preserved
loop-count-preserved g c = one_more_reply c.loop-count.count c.args.connection.now c.loop-count.connection
    c.take_reply.new.connection c.loop-count.invariant c.in-Ok.ensures.ok

pub returns-in-Err-clause-cause : goal.returns-in-Err-clause-cause
returns-in-Err-clause-cause g c =
    (c.loop-count.connection, c.loop-count.invariant, c.in-Err.ensures.err, c.in-Err.ensures.cause)
