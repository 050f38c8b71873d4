-- A value as bytes, in either version of the protocol.
use Rattle.std.specs.Prelude.{ℕ, ◌*◌, ◌==◌, suc, Bool, List, [], ◌∷◌, ◌++◌, length, codes, decimal, if◌then◌else◌}
use Rattle.std.specs.Fmt.{signed_decimal}
use Rattle.std.specs.List.{list_all}
use Rattle.redis_resp.specs.Tree.{Tree, nil, int, bulk, array, simple, okay, map_of_pairs, attribute, set, boolean}
use Rattle.redis_resp.specs.Tree.{verbatim, push, Trees, no_trees, more_trees, Pairs, no_pairs, more_pairs}
use Rattle.redis_wire.specs.declared.written.Protocol.{Protocol}
use Rattle.redis_wire.specs.declared.written.Protocol.TheVariants.{Resp2, Resp3}
use Rattle.redis_wire.specs.Reading.{is_inner}
use Rattle.redis_wire.specs.Packed.{crlf, bulk_bytes}

-- a first byte, a line and CR LF
abbrev pub line_bytes : ℕ → List ℕ → List ℕ
line_bytes mark line = mark ∷ (line ++ crlf)

-- a first byte and a length or count
abbrev pub count_bytes : ℕ → ℕ → List ℕ
count_bytes mark n = line_bytes mark (decimal n)

-- a first byte, a length, and this number of bytes
abbrev pub blob_bytes : ℕ → List ℕ → List ℕ
blob_bytes mark body = count_bytes mark (length body) ++ (body ++ crlf)

-- the number of trees in a list
abbrev pub tree_count : Trees → ℕ
tree_count no_trees = 0
tree_count (more_trees t ts) = suc (tree_count ts)

-- the number of pairs in a list
abbrev pub pair_count : Pairs → ℕ
pair_count no_pairs = 0
pair_count (more_pairs k x ps) = suc (pair_count ps)

-- ---- lines and length-prefixed bytes

-- a null
abbrev pub nil_bytes : Protocol → List ℕ
nil_bytes Resp2 = line_bytes 36 (codes "-1")
nil_bytes Resp3 = line_bytes 95 []

-- a simple string, or a bulk string if no line can hold it
unfoldable pub text_bytes : List ℕ → List ℕ
text_bytes text = if list_all is_inner text then line_bytes 43 text else bulk_bytes text

-- a boolean, which is a number in RESP2
abbrev pub boolean_bytes : Protocol → Bool → List ℕ
boolean_bytes Resp2 b = line_bytes 58 (if b then codes "1" else codes "0")
boolean_bytes Resp3 b = line_bytes 35 (if b then codes "t" else codes "f")

-- a text after the three bytes of its format, which RESP2 leaves out
unfoldable pub verbatim_bytes : Protocol → List ℕ → List ℕ → List ℕ
verbatim_bytes Resp2 format text = bulk_bytes text
verbatim_bytes Resp3 format text =
    if length format == 3 then blob_bytes 61 (format ++ 58 ∷ text) else bulk_bytes text

-- ---- values with members

-- the header of a set, which is an array in RESP2
abbrev pub set_head : Protocol → ℕ → List ℕ
set_head Resp2 n = count_bytes 42 n
set_head Resp3 n = count_bytes 126 n

-- the header of a map, which is an array of keys and values, in turn, in RESP2
abbrev pub map_head : Protocol → ℕ → List ℕ
map_head Resp2 n = count_bytes 42 (2 * n)
map_head Resp3 n = count_bytes 37 n

-- attributes, which RESP2 leaves out
abbrev pub attributes_bytes : Protocol → ℕ → List ℕ → List ℕ
attributes_bytes Resp2 n bytes = []
attributes_bytes Resp3 n bytes = count_bytes 124 n ++ bytes

abbrev mutual
  -- A value. A pushed message is not one; inside a value it is the array of its kind and the values sent
  -- with it.
  pub tree_bytes : Protocol → Tree → List ℕ
  tree_bytes p nil = nil_bytes p
  tree_bytes p (int z) = line_bytes 58 (signed_decimal z)
  tree_bytes p (bulk bytes) = bulk_bytes bytes
  tree_bytes p (array ts) = count_bytes 42 (tree_count ts) ++ trees_bytes p ts
  tree_bytes p (simple text) = text_bytes text
  tree_bytes p okay = line_bytes 43 (codes "OK")
  tree_bytes p (map_of_pairs ps) = map_head p (pair_count ps) ++ pairs_bytes p ps
  tree_bytes p (attribute t ps) = attributes_bytes p (pair_count ps) (pairs_bytes p ps) ++ tree_bytes p t
  tree_bytes p (set ts) = set_head p (tree_count ts) ++ trees_bytes p ts
  tree_bytes p (boolean b) = boolean_bytes p b
  tree_bytes p (verbatim format text) = verbatim_bytes p format text
  tree_bytes p (push kind ts) = count_bytes 42 (suc (tree_count ts)) ++ (bulk_bytes kind ++ trees_bytes p ts)

  -- values one after the other
  pub trees_bytes : Protocol → Trees → List ℕ
  trees_bytes p no_trees = []
  trees_bytes p (more_trees t ts) = tree_bytes p t ++ trees_bytes p ts

  -- keys and values, in turn
  pub pairs_bytes : Protocol → Pairs → List ℕ
  pairs_bytes p no_pairs = []
  pairs_bytes p (more_pairs k x ps) = tree_bytes p k ++ (tree_bytes p x ++ pairs_bytes p ps)
