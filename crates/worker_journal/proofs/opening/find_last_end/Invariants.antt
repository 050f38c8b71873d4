use Rattle.std.proofs.Common.{◌≤◌, length, drop}
use Rattle.worker_journal.specs.Lines.{HasNoEnd}
use Rattle.worker_journal.proofs.opening.find_last_end.Given as goal

abbrev pub invariant-loop-end : goal.invariant-loop-end
invariant-loop-end l = record { within : l.end ≤ length l.bytes; torn : HasNoEnd (drop l.end l.bytes) }

abbrev pub decreases-loop-end : goal.decreases-loop-end
decreases-loop-end l = l.end
