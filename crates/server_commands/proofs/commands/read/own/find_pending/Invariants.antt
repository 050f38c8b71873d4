use Rattle.std.proofs.Common.{◌≡◌, ◌++◌, ◌-◌, length, take}
use Rattle.server_store.specs.PendingList.{live_from}
use Rattle.server_commands.specs.Rereading.{pending_for}
use Rattle.server_commands.proofs.commands.read.own.find_pending.Given as goal

-- what is found and what is left make all of it
abbrev pub invariant-loop-after : goal.invariant-loop-after
invariant-loop-after l =
    l.own.items ++ take l.left (pending_for l.number (live_from l.group.pending.slots l.at))
    ≡ take l.initial.left (pending_for l.number (live_from l.group.pending.slots l.initial.at))

abbrev pub decreases-loop-after : goal.decreases-loop-after
decreases-loop-after l = length l.group.pending.slots - l.at
