use Rattle.std.proofs.Common.{◌<◌, length}
use Rattle.test_notation.proofs.notation.value.bytes_in.Given as goal

abbrev pub invariant-loop-bytes : goal.invariant-loop-bytes
invariant-loop-bytes l = length l.rest < length l.text

abbrev pub decreases-loop-bytes : goal.decreases-loop-bytes
decreases-loop-bytes l = length l.rest
