-- The tree of a `Value`.
use Rattle.std.specs.Prelude.{string_bytes}
use Rattle.redis_resp.specs.Tree.{Tree, nil, int, bulk, array, simple, okay, map_of_pairs, attribute, set, boolean}
use Rattle.redis_resp.specs.Tree.{verbatim, push, trees, pairs}
use Rattle.redis_resp.specs.declared.value.Value.{Value, fold-Value}
use Rattle.redis_resp.specs.declared.value.Value.TheOpen.{Value-F}

-- one level of a value, with each value inside already seen as its tree
abbrev pub tree_step : Value-F Tree → Tree
tree_step Value-F.Nil = nil
tree_step (Value-F.Int z) = int z
tree_step (Value-F.BulkString b) = bulk b.items
tree_step (Value-F.Array v) = array (trees v.items)
tree_step (Value-F.SimpleString s) = simple (string_bytes s)
tree_step Value-F.Okay = okay
tree_step (Value-F.Map v) = map_of_pairs (pairs v.items)
tree_step (Value-F.Attribute p v) = attribute p.value (pairs v.items)
tree_step (Value-F.Set v) = set (trees v.items)
tree_step (Value-F.Boolean b) = boolean b
tree_step (Value-F.VerbatimString f t) = verbatim (string_bytes f) (string_bytes t)
tree_step (Value-F.Push k v) = push (string_bytes k) (trees v.items)

-- the tree of a value
abbrev pub tree : Value → Tree
tree = fold-Value Tree tree_step

-- a pair of values as a pair of trees
abbrev pub tree_of_pair : Value × Value → Tree × Tree
tree_of_pair p = (tree p.0, tree p.1)
