use Rattle.std.proofs.Common.{◌≤◌}
use Rattle.worker_journal.proofs.LastLinesLemmas.{EndBehind}
use Rattle.worker_journal.proofs.last_lines.find_last_start.Given as goal

abbrev pub invariant-loop-at : goal.invariant-loop-at
invariant-loop-at g l = record {
  within : l.at ≤ l.fn.len;
  count : EndBehind (g.D.LogFile.seen l.fn.file) l.fn.len l.at l.left l.fn.number;
}

abbrev pub decreases-loop-at : goal.decreases-loop-at
decreases-loop-at g l = l.at
