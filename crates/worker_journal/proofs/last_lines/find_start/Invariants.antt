use Rattle.std.proofs.Common.{◌≡◌, ◌≤◌, ◌+◌, length, drop}
use Rattle.worker_journal.specs.LastLines.{lines_of}
use Rattle.worker_journal.proofs.last_lines.find_start.Given as goal

-- those that end after this index, and those that are left
abbrev pub invariant-loop-at : goal.invariant-loop-at
invariant-loop-at l = record {
  within : l.at ≤ length l.bytes;
  count : length (lines_of (drop l.at l.bytes)) + l.left ≡ l.fn.left;
}

abbrev pub decreases-loop-at : goal.decreases-loop-at
decreases-loop-at l = l.at
