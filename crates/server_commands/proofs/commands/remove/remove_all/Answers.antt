use Rattle.server_commands.proofs.DeletingLemmas.{deleted_more}
use Rattle.server_commands.proofs.commands.remove.remove_all.Goals as goal

pub loop-id-preserved : goal.loop-id-preserved
loop-id-preserved c =
    deleted_more c.args.ids.now c.loop-id.id-index _ c.args.stream.now c.loop-id.stream c.remove-was_there.new.self _
    c.remove-was_there.result c.loop-id-test.true c.loop-id.invariant c.remove-was_there.ensures.gone
    c.remove-was_there.ensures.same c.remove-was_there.ensures.none c.remove-was_there.ensures.others
