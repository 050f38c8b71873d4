use Rattle.std.proofs.Common.{◌≡◌, length}
use Rattle.worker_jobs.specs.VerdictOf.{text_of}
use Rattle.worker_jobs.proofs.reply.text_in.Given as goal

-- the text is that of what is left
abbrev pub invariant-loop-rest : goal.invariant-loop-rest
invariant-loop-rest l = record { text : text_of l.rest ≡ text_of l.fn.line }

abbrev pub decreases-loop-rest : goal.decreases-loop-rest
decreases-loop-rest l = length l.rest
