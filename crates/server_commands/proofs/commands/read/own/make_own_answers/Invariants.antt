use Rattle.std.proofs.Common.{◌≡◌, map, take}
use Rattle.server_store.specs.Laws.{AreInOrder}
use Rattle.server_commands.specs.Rereading.{sent_own}
use Rattle.server_commands.specs.Sent.{sent}
use Rattle.server_commands.proofs.commands.read.own.make_own_answers.Given as goal

-- each so far has its reply
abbrev pub invariant-loop-pending : goal.invariant-loop-pending
invariant-loop-pending l =
    AreInOrder l.stream.entries.items → map sent l.answers.items
    ≡ map (sent_own l.stream.entries.items) (take l.pending-index l.own)
