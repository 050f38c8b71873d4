use Rattle.std.proofs.Common.{◌<◌, length}
use Rattle.test_notation.proofs.notation.quoted.quoted_in.Given as goal

abbrev pub invariant-loop-first : goal.invariant-loop-first
invariant-loop-first l = length l.rest < length l.text

abbrev pub decreases-loop-first : goal.decreases-loop-first
decreases-loop-first l = length l.rest
