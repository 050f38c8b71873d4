use Rattle.std.proofs.Common.{◌≡◌, take, map}
use Rattle.stream_top.specs.Shape.{shape_of, shape_of_pair}
use Rattle.stream_top.proofs.+legible.Given as goal

abbrev pub invariant-copy_values-loop-value : goal.invariant-copy_values-loop-value
invariant-copy_values-loop-value l = map shape_of l.copies.items ≡ map shape_of (take l.value-index l.value-items)

abbrev pub invariant-copy_pairs-loop-pair : goal.invariant-copy_pairs-loop-pair
invariant-copy_pairs-loop-pair l = map shape_of_pair l.copies.items ≡ map shape_of_pair (take l.pair-index l.pair-items)
