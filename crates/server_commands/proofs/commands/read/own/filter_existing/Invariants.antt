use Rattle.std.proofs.Common.{◌≡◌, take}
use Rattle.server_store.specs.Laws.{AreInOrder}
use Rattle.server_commands.specs.Rereading.{with_entries}
use Rattle.server_commands.proofs.commands.read.own.filter_existing.Given as goal

-- those so far of which the entry is there
abbrev pub invariant-loop-pending : goal.invariant-loop-pending
invariant-loop-pending l =
    AreInOrder l.stream.entries.items → l.there.items ≡ with_entries l.stream.entries.items (take l.pending-index l.own)
