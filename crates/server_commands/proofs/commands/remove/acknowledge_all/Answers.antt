use Rattle.server_commands.proofs.AcknowledgeLemmas.{acknowledged_more}
use Rattle.server_commands.proofs.commands.remove.acknowledge_all.Goals as goal

pub loop-id-preserved : goal.loop-id-preserved
loop-id-preserved c =
    acknowledged_more c.args.ids.now c.loop-id.id-index _ c.args.group.now c.loop-id.group c.acknowledge-was_pending.new.self _
    c.acknowledge-was_pending.result c.loop-id-test.true c.loop-id.invariant c.acknowledge-was_pending.ensures.without c.acknowledge-was_pending.ensures.order
    c.acknowledge-was_pending.ensures.gone c.acknowledge-was_pending.ensures.same c.acknowledge-was_pending.ensures.others
