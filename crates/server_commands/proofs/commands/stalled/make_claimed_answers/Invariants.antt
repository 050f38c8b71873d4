use Rattle.std.proofs.Common.{◌≡◌, map, take}
use Rattle.server_store.specs.Laws.{AreInOrder}
use Rattle.server_commands.specs.Claiming.{entries_with, ids_of, sent_claimed}
use Rattle.server_commands.specs.Sent.{sent}
use Rattle.server_commands.proofs.commands.stalled.make_claimed_answers.Given as goal

-- the claimed entries so far are replies
abbrev pub invariant-loop-pending : goal.invariant-loop-pending
invariant-loop-pending l =
    AreInOrder l.stream.entries.items → map sent l.answers.items
    ≡ map (sent_claimed l.only_ids) (entries_with (ids_of (take l.pending-index l.claimed)) l.stream.entries.items)
