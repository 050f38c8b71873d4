-- Whether two trees are the same, by their parts.
use Rattle.std.specs.Prelude.{Bool, true, false, ◌&&◌}
use Rattle.std.specs.Bool.{beq}
use Rattle.std.specs.Ordering.{int_eq}
use Rattle.std.specs.Str.{bytes_eq}
use Rattle.redis_resp.specs.Tree.{Tree, nil, int, bulk, array, simple, okay, map_of_pairs, attribute, set, boolean}
use Rattle.redis_resp.specs.Tree.{verbatim, push, Trees, no_trees, more_trees, Pairs, no_pairs, more_pairs}

abbrev mutual
  -- the two are of one kind, and their parts are the same
  pub same : Tree → Tree → Bool
  same nil nil = true
  same (int x) (int y) = int_eq x y
  same (bulk x) (bulk y) = bytes_eq x y
  same (array x) (array y) = same_each x y
  same (simple x) (simple y) = bytes_eq x y
  same okay okay = true
  same (map_of_pairs x) (map_of_pairs y) = same_pairs x y
  same (attribute x m) (attribute y n) = same x y && same_pairs m n
  same (set x) (set y) = same_each x y
  same (boolean x) (boolean y) = beq x y
  same (verbatim f x) (verbatim g y) = bytes_eq f g && bytes_eq x y
  same (push f x) (push g y) = bytes_eq f g && same_each x y
  same _ _ = false

  -- the same number of trees, equal at each index
  pub same_each : Trees → Trees → Bool
  same_each no_trees no_trees = true
  same_each (more_trees t ts) (more_trees u us) = same t u && same_each ts us
  same_each _ _ = false

  -- the same number of pairs, equal at each index
  pub same_pairs : Pairs → Pairs → Bool
  same_pairs no_pairs no_pairs = true
  same_pairs (more_pairs k x ps) (more_pairs l y qs) = same k l && (same x y && same_pairs ps qs)
  same_pairs _ _ = false
