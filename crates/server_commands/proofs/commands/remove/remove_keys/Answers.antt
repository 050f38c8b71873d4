use Rattle.server_commands.proofs.RemovingLemmas.{removed_more, removed_not_yet}
use Rattle.server_commands.proofs.commands.remove.remove_keys.Goals as goal

pub loop-key-init : goal.loop-key-init
loop-key-init c = removed_not_yet c.args.streams.now.items

pub loop-key-preserved : goal.loop-key-preserved
loop-key-preserved c =
    removed_more c.args.keys.now c.loop-key.key-index _ c.args.streams.now.items c.loop-key.streams.items
    c.remove_key.new.streams.items c.key-item.result c.loop-key-test.true c.loop-key.invariant
    (rw (← c.key-item.is, ← c.deref.ensures.value) c.remove_key.ensures)
