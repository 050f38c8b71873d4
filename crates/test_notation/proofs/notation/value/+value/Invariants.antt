use Rattle.std.proofs.Common.{◌+◌, ◌*◌, ◌<◌, ◌≤◌, length}
use Rattle.test_notation.proofs.notation.value.+value.Given as goal

-- Each call reads a shorter text than its caller, but for the first key of a list of pairs.
abbrev pub decreases-array_in : goal.decreases-array_in
decreases-array_in l = 4 * length l.text.now + 1

abbrev pub decreases-attribute_in : goal.decreases-attribute_in
decreases-attribute_in l = 4 * length l.text.now

abbrev pub decreases-map_in : goal.decreases-map_in
decreases-map_in l = 4 * length l.text.now

abbrev pub decreases-pairs_in : goal.decreases-pairs_in
decreases-pairs_in l = 4 * length l.text.now + 1

abbrev pub decreases-push_in : goal.decreases-push_in
decreases-push_in l = 4 * length l.text.now

abbrev pub decreases-set_in : goal.decreases-set_in
decreases-set_in l = 4 * length l.text.now + 1

abbrev pub decreases-value_in : goal.decreases-value_in
decreases-value_in l = 4 * length l.text.now

abbrev pub decreases-values_in : goal.decreases-values_in
decreases-values_in l = 4 * length l.text.now

abbrev pub invariant-pairs_in-loop-pairs : goal.invariant-pairs_in-loop-pairs
invariant-pairs_in-loop-pairs l = length l.rest ≤ length l.text

abbrev pub decreases-pairs_in-loop-pairs : goal.decreases-pairs_in-loop-pairs
decreases-pairs_in-loop-pairs l = length l.rest

abbrev pub invariant-values_in-loop-values : goal.invariant-values_in-loop-values
invariant-values_in-loop-values l = length l.rest < length l.text

abbrev pub decreases-values_in-loop-values : goal.decreases-values_in-loop-values
decreases-values_in-loop-values l = length l.rest
