use Rattle.std.proofs.Common.{◌≡◌, map, drop, length}
use Rattle.redis_resp.specs.Tree.{trees, pairs}
use Rattle.redis_resp.specs.Value.{tree, tree_of_pair}
use Rattle.redis_resp.specs.Same.{same_each, same_pairs}
use Rattle.redis_resp.proofs.value.equality.+alike.Given as goal

abbrev pub invariant-are_all_alike-loop-i : goal.invariant-are_all_alike-loop-i
invariant-are_all_alike-loop-i l = record {
  rest : same_each (trees (map tree l.a)) (trees (map tree l.b))
      ≡ same_each (trees (map tree (drop l.i l.a))) (trees (map tree (drop l.i l.b)));
  long : length l.a ≡ length l.b;
}

abbrev pub invariant-are_pairs_alike-loop-i : goal.invariant-are_pairs_alike-loop-i
invariant-are_pairs_alike-loop-i l = record {
  rest : same_pairs (pairs (map tree_of_pair l.a)) (pairs (map tree_of_pair l.b))
      ≡ same_pairs (pairs (map tree_of_pair (drop l.i l.a))) (pairs (map tree_of_pair (drop l.i l.b)));
  long : length l.a ≡ length l.b;
}
