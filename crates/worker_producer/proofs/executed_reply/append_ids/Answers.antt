use Rattle.std.proofs.Common.{◌∙◌}
use Rattle.worker_producer.proofs.ExecutedLemmas.{one_id_more}
use Rattle.worker_producer.proofs.executed_reply.append_ids.Goals as goal

pub loop-index-preserved : goal.loop-index-preserved
loop-index-preserved c =
    one_id_more c.args.before c.loop-index.index c.args.out.now.items c.loop-index.out.items c.deref.result.now
    c.push_bulk.new.out.items c.loop-index.invariant (c.deref.ensures.value ∙ c.in_ok-write_id.ensures) c.in_ok-push_bulk.ensures.ok
