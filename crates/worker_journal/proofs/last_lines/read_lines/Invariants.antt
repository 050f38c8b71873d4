use Rattle.std.proofs.Common.{◌-◌}
use Rattle.worker_journal.specs.LastLines.{begun_now}
use Rattle.worker_journal.proofs.LastLinesLemmas.{TakesFrom}
use Rattle.worker_journal.proofs.last_lines.read_lines.Given as goal

abbrev pub invariant-loop-at : goal.invariant-loop-at
invariant-loop-at g l = TakesFrom (g.D.LogFile.seen l.fn.file) l.fn.len l.fn.from l.at (begun_now l.lines l.line)

abbrev pub decreases-loop-at : goal.decreases-loop-at
decreases-loop-at g l = l.fn.len - l.at
