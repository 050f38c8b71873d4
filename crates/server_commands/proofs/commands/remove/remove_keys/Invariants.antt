use Rattle.std.proofs.Common.{◌-◌, length, take}
use Rattle.server_commands.specs.Removing.{AreRemoved}
use Rattle.server_commands.proofs.commands.remove.remove_keys.Given as goal

-- the streams of the keys so far are removed
abbrev pub invariant-loop-key : goal.invariant-loop-key
invariant-loop-key l =
    AreRemoved (take l.key-index l.keys) (length l.initial.streams.items - length l.streams.items)
    l.initial.streams.items l.streams.items
