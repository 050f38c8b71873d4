use Rattle.worker_table.proofs.RowTableLemmas.OutboxLemmas.{IsFirstSoFar}
use Rattle.worker_table.proofs.row_table.memory.outbox.find_first.Given as goal

abbrev pub invariant-loop-post : goal.invariant-loop-post
invariant-loop-post l = IsFirstSoFar l.posts l.post-index l.first
