-- The replies that are read, as trees.
use Rattle.std.specs.Prelude.{ℕ, ◌-◌, ◌^◌, pos, false, List, [], ◌∷◌, ◌++◌, codes, decimal}
use Rattle.std.specs.Fmt.{format_spec, padded_integral}
use Rattle.redis_resp.specs.Tree.{Tree, nil, int, bulk, array, trees}
use Rattle.test_costs.specs.Below.{below}
use Rattle.test_costs.specs.declared.job.Operation.{Operation}
use Rattle.test_costs.specs.declared.job.Operation.TheVariants.{Range, RangeOfOneField, Read, ReadWithClaim, Autoclaim}
use Rattle.test_costs.specs.declared.job.Operation.TheVariants.{AutoclaimOfIds, Pending, Table, Add}
use Rattle.test_costs.specs.declared.replies.Row.{Row}
use Rattle.test_costs.specs.declared.replies.Row.TheVariants.{Entry, Claimed, Id, Waiting}

-- a number in five digits, or more if it has more
abbrev pub five_digits : ℕ → List ℕ
five_digits n = padded_integral (format_spec 32 0 4 5 (2 ^ 64 - 1)) false [] (decimal n)

-- the id of a row
abbrev pub id_tree : ℕ → Tree
id_tree index = bulk (codes "17134655" ++ (five_digits index ++ codes "-0"))

-- a field of a row, and its value
abbrev pub field_trees : ℕ → ℕ → List Tree
field_trees index field = bulk (codes "field-" ++ decimal field)
    ∷ bulk (codes "value-" ++ (decimal index ++ (codes "-" ++ decimal field))) ∷ []

-- the fields of a row and their values, one after the other
abbrev pub fields_tree : ℕ → ℕ → Tree
fields_tree index count = array (trees (below (field_trees index) count))

-- a row
abbrev pub row_tree : Row → ℕ → Tree
row_tree (Entry count) index = array (trees (id_tree index ∷ fields_tree index count ∷ []))
row_tree (Claimed count) index = array
    (trees (id_tree index ∷ fields_tree index count ∷ int (pos 7) ∷ int (pos 2) ∷ []))
row_tree Id index = id_tree index
row_tree Waiting index = array (trees (id_tree index ∷ bulk (codes "worker-1") ∷ int (pos 7) ∷ int (pos 2) ∷ []))

-- this number of rows, in order
unfoldable pub row_trees : Row → ℕ → List Tree
row_trees row count = below (λ index. row_tree row index ∷ []) count

-- a text and a number
abbrev pub pair_trees : ℕ → List Tree
pair_trees n = bulk (codes "n" ++ decimal n) ∷ int (pos 7) ∷ []

-- rows as XREAD returns them of one stream
abbrev pub stream_tree : List Tree → Tree
stream_tree rows = array (trees (array (trees (bulk (codes "stream") ∷ array (trees rows) ∷ [])) ∷ []))

-- rows as XAUTOCLAIM returns them at the end of a stream, none of them deleted
abbrev pub claimed_tree : List Tree → Tree
claimed_tree rows = array (trees (bulk (codes "0-0") ∷ array (trees rows) ∷ array (trees []) ∷ []))

-- the reply of an operation with this number of rows
abbrev pub reply_tree : Operation → ℕ → Tree
reply_tree Range count = array (trees (row_trees (Entry 5) count))
reply_tree RangeOfOneField count = array (trees (row_trees (Entry 1) count))
reply_tree Read count = stream_tree (row_trees (Entry 5) count)
reply_tree ReadWithClaim count = stream_tree (row_trees (Claimed 5) count)
reply_tree Autoclaim count = claimed_tree (row_trees (Entry 5) count)
reply_tree AutoclaimOfIds count = claimed_tree (row_trees Id count)
reply_tree Pending count = array (trees (row_trees Waiting count))
reply_tree Table count = array (trees (below pair_trees count))
reply_tree Add count = nil
