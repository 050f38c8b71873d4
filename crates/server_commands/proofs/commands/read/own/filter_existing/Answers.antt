use Rattle.server_commands.proofs.RereadLemmas.{there_next}
use Rattle.server_commands.proofs.commands.read.own.filter_existing.Goals as goal

pub loop-pending-preserved : goal.loop-pending-preserved
loop-pending-preserved c = λ up.
    there_next c.args.stream.now.entries.items c.args.own.now c.loop-pending.pending-index _ c.loop-pending.there.items
    c.put_there.new.there.items c.loop-pending-test.true (c.in_ok-put_there.ensures up) (c.loop-pending.invariant up)
