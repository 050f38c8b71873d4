use Rattle.std.proofs.Common.{◌≡◌, ◌-◌, length}
use Rattle.server_store.specs.Laws.{AreInOrder}
use Rattle.server_store.specs.PendingList.{live_from}
use Rattle.server_commands.specs.Stalled.{found_in}
use Rattle.server_commands.proofs.StalledLemmas.{ahead}
use Rattle.server_commands.proofs.commands.stalled.find_stalled.Given as goal

-- what is found so far, and from this slot on, is what is found of all
abbrev pub invariant-loop-after : goal.invariant-loop-after
invariant-loop-after l = record {
  no_next : l.next ≡ record { milliseconds = 0; sequence = 0 };
  found : AreInOrder l.stream.entries.items
      → ahead l.claimed.items l.gone.items
      (found_in l.stream.entries.items l.claim.now l.claim.least_idle l.attempts l.left (live_from l.group.pending.slots l.at))
      ≡ found_in l.stream.entries.items l.claim.now l.claim.least_idle l.initial.attempts l.initial.left
      (live_from l.group.pending.slots l.initial.at);
}

abbrev pub decreases-loop-after : goal.decreases-loop-after
decreases-loop-after l = length l.group.pending.slots - l.at
