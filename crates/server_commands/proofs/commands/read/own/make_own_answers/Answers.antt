use Rattle.server_commands.proofs.RereadLemmas.{own_more}
use Rattle.server_commands.proofs.commands.read.own.make_own_answers.Goals as goal

pub loop-pending-preserved : goal.loop-pending-preserved
loop-pending-preserved c = λ up.
    own_more c.args.stream.now.entries.items c.args.own.now c.loop-pending.pending-index _
    c.loop-pending.answers.items c.put.new.answers.items c.in_ok-make_own_answer.field-0 c.loop-pending-test.true
    c.in_ok-put.ensures (c.in_ok-make_own_answer.ensures up) (c.loop-pending.invariant up)
