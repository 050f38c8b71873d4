use Rattle.std.proofs.Common.{◌-◌, length, take}
use Rattle.server_commands.specs.Acknowledging.{AreAcknowledged}
use Rattle.server_commands.proofs.commands.remove.acknowledge_all.Given as goal

-- the ids so far are acknowledged
abbrev pub invariant-loop-id : goal.invariant-loop-id
invariant-loop-id l =
    AreAcknowledged (take l.id-index l.ids) (length l.initial.group.pending.items - length l.group.pending.items)
    l.initial.group l.group
