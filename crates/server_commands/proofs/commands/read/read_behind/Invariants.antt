use Rattle.std.proofs.Common.{◌≡◌, ◌++◌, map, take}
use Rattle.std.specs.VecDeque.Iter.{deque_iter_rest}
use Rattle.server_commands.specs.Claiming.{sent_entry}
use Rattle.server_commands.specs.Sent.{sent}
use Rattle.server_commands.proofs.commands.read.read_behind.Given as goal

-- what is found and what is left make all of it
abbrev pub invariant-loop-entry : goal.invariant-loop-entry
invariant-loop-entry l =
    map sent l.answers.items ++ map sent_entry (take l.left (deque_iter_rest l.entry-iterator))
    ≡ map sent_entry (take l.initial.left (deque_iter_rest l.initial.entry-iterator))
