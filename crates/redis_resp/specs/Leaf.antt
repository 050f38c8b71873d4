-- Values that hold no others, and those that have no buffer.
use Rattle.std.specs.Prelude.{Bool, true, false}
use Rattle.redis_resp.specs.Tree.{Tree, nil, int, array, okay, map_of_pairs, attribute, set, boolean, push}

-- a tree that holds no others; nil if it may hold others
abbrev pub leaf : Tree → Tree
leaf (array ts) = nil
leaf (map_of_pairs ps) = nil
leaf (attribute t ps) = nil
leaf (set ts) = nil
leaf (push k ts) = nil
leaf t = t

-- it has a buffer on the heap: all but nil, a number, `OK` and a boolean
abbrev pub has_buffer : Tree → Bool
has_buffer nil = false
has_buffer (int z) = false
has_buffer okay = false
has_buffer (boolean b) = false
has_buffer t = true
