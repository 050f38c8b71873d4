use Rattle.std.proofs.Common.{◌-◌, length, take}
use Rattle.server_commands.specs.Deleting.{AreDeleted}
use Rattle.server_commands.proofs.commands.remove.remove_all.Given as goal

-- the entries with the ids so far are gone
abbrev pub invariant-loop-id : goal.invariant-loop-id
invariant-loop-id l =
    AreDeleted (take l.id-index l.ids) (length l.initial.stream.entries.items - length l.stream.entries.items)
    l.initial.stream l.stream
