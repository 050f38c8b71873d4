use Rattle.server_commands.proofs.RemovingLemmas.{removed_none, removed_one}
use Rattle.server_commands.proofs.commands.remove.remove_key.Goals as goal

pub returns-in-Ok : goal.returns-in-Ok
returns-in-Ok c =
    rw c.remove-stream.ensures.items
    (removed_one c.args.key.now c.args.streams.now.items c.in-Ok.index (rw (← c.deref.ensures.value) c.in-Ok.ensures.bound)
    (rw (← c.deref.ensures.value) c.in-Ok.ensures.found))

pub returns-in_default : goal.returns-in_default
returns-in_default c =
    removed_none c.args.key.now c.args.streams.now.items (rw (← c.deref.ensures.value) c.in_default.ensures.missing)
