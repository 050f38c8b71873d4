use Rattle.std.proofs.Common.{length, map}
use Rattle.server_store.specs.Room.{IsOpenFor}
use Rattle.server_store.specs.declared.group.Group.{Group}
use Rattle.server_commands.specs.Giving.{AreGiven, for_consumer}
use Rattle.server_commands.proofs.commands.read.put_read.Given as goal

-- the group has memory for what is left; once that is given, all is
abbrev pub invariant-loop-pending : goal.invariant-loop-pending
invariant-loop-pending l =
    (IsOpenFor (length l.initial.left.items) l.initial.group → IsOpenFor (length l.left.items) l.group)
    × (IsOpenFor (length l.initial.left.items) l.initial.group → (new : Group)
    → AreGiven (map (for_consumer l.number) l.left.items) l.group new
    → AreGiven (map (for_consumer l.number) l.initial.left.items) l.initial.group new)

abbrev pub decreases-loop-pending : goal.decreases-loop-pending
decreases-loop-pending l = length l.left.items
