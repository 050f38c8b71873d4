use Rattle.worker_journal.proofs.EndLemmas.{NoneFrom}
use Rattle.worker_journal.proofs.opening.measure_lines.Given as goal

abbrev pub invariant-loop-at : goal.invariant-loop-at
invariant-loop-at g l = NoneFrom (g.D.LogFile.seen l.file) l.at

abbrev pub decreases-loop-at : goal.decreases-loop-at
decreases-loop-at g l = l.at
