use Rattle.std.proofs.Common.{take}
use Rattle.std.specs.VecDeque.Iter.{deque_iter_rest}
use Rattle.server_store.specs.declared.group.Group.{Group}
use Rattle.server_commands.specs.Delivering.{AreDelivered}
use Rattle.server_commands.proofs.commands.read.deliver_new.Given as goal

-- once the rest is delivered, all is
abbrev pub invariant-loop-entry : goal.invariant-loop-entry
invariant-loop-entry l =
    (new : Group)
    → AreDelivered l.number l.reader.now l.reader.noack (take l.left (deque_iter_rest l.entry-iterator)) l.group new
    → AreDelivered l.number l.reader.now l.reader.noack
    (take l.initial.left (deque_iter_rest l.initial.entry-iterator)) l.initial.group new
