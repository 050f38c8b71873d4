use Rattle.std.proofs.Common.{◌≡◌, ◌++◌, take, map}
use Rattle.redis_resp.specs.Tree.{trees, pairs}
use Rattle.redis_resp.specs.Value.{tree, tree_of_pair}
use Rattle.redis_wire.specs.Written.{trees_bytes, pairs_bytes}
use Rattle.redis_wire.proofs.written.+written.Given as goal

abbrev pub invariant-push_values-loop-value : goal.invariant-push_values-loop-value
invariant-push_values-loop-value l = l.out.items ≡ l.initial.out.items
    ++ trees_bytes l.protocol (trees (map tree (take l.value-index l.value-items)))

abbrev pub invariant-push_pairs-loop-key : goal.invariant-push_pairs-loop-key
invariant-push_pairs-loop-key l = l.out.items ≡ l.initial.out.items
    ++ pairs_bytes l.protocol (pairs (map tree_of_pair (take l.key-index l.key-items)))
