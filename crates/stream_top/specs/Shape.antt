-- The shape of a value: the value without the content of its bulk strings and without its attributes.
use Rattle.std.specs.Prelude.{[]}
use Rattle.redis_resp.specs.Tree.{Tree, Trees, Pairs, nil, int, bulk, array, simple, okay, map_of_pairs, attribute, set}
use Rattle.redis_resp.specs.Tree.{boolean, verbatim, push, no_trees, more_trees, no_pairs, more_pairs}
use Rattle.redis_resp.specs.Value.{tree}
use Rattle.redis_resp.specs.declared.value.Value.{Value}

abbrev mutual
  -- the value with an empty text in place of each bulk string, and without attributes
  pub shape : Tree → Tree
  shape nil = nil
  shape (int z) = int z
  shape (bulk text) = bulk []
  shape (array ts) = array (shapes ts)
  shape (simple text) = simple text
  shape okay = okay
  shape (map_of_pairs ps) = map_of_pairs (pair_shapes ps)
  shape (attribute t extra) = shape t
  shape (set ts) = set (shapes ts)
  shape (boolean b) = boolean b
  shape (verbatim format text) = verbatim format text
  shape (push kind ts) = push kind ts

  -- the shape of each value
  pub shapes : Trees → Trees
  shapes no_trees = no_trees
  shapes (more_trees t ts) = more_trees (shape t) (shapes ts)

  -- the shapes of each pair
  pub pair_shapes : Pairs → Pairs
  pair_shapes no_pairs = no_pairs
  pair_shapes (more_pairs k x ps) = more_pairs (shape k) (shape x) (pair_shapes ps)

-- the shape of a `Value`
abbrev pub shape_of : Value → Tree
shape_of v = shape (tree v)

-- the shapes of both values of a pair
abbrev pub shape_of_pair : Value × Value → Tree × Tree
shape_of_pair p = (shape_of p.0, shape_of p.1)
