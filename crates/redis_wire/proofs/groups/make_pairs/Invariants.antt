use Rattle.std.proofs.Common.{◌≡◌, map, length}
use Rattle.std.specs.Vec.Iter.{into_iter_items, into_iter_len}
use Rattle.redis_resp.specs.Tree.{two_by_two}
use Rattle.redis_resp.specs.Value.{tree, tree_of_pair}
use Rattle.redis_wire.proofs.PairLemmas.{pairs_behind}
use Rattle.redis_wire.proofs.groups.make_pairs.Given as goal

abbrev pub invariant-loop-key : goal.invariant-loop-key
invariant-loop-key l = record {
  so_far : pairs_behind (map tree_of_pair l.pairs.items) (into_iter_items l.rest)
      ≡ two_by_two (map tree (into_iter_items l.initial.rest));
  count : into_iter_len l.rest ≡ length (into_iter_items l.rest);
}

abbrev pub decreases-loop-key : goal.decreases-loop-key
decreases-loop-key l = into_iter_len l.rest
