-- How an entry of a stream is printed in a line.
use Rattle.std.specs.Prelude.{ℕ, List, [], ◌∷◌, ◌++◌, Option, Some, None, unwrap_or, codes, decimal, map, String}
use Rattle.std.specs.Prelude.{string_bytes}
use Rattle.std.specs.declared.alloc.Global.{Global}
use Rattle.std.specs.BTreeMap.{insert_entry}
use Rattle.std.specs.Cmp.Lexicographic.{slice_cmp}
use Rattle.std.specs.List.{join_by}
use Rattle.std.specs.Ordering.{nat_cmp}
use Rattle.redis_resp.specs.declared.value.Value.{Value}
use Rattle.redis_resp.specs.Text.{text_reading}
use Rattle.redis_resp.specs.Tree.{Tree}
use Rattle.redis_resp.specs.Value.{tree}
use Rattle.stream_entries.specs.declared.stream_id.StreamId.{StreamId}
use denote.Ref.{Bor}
use Rattle.test_notation.specs.declared.replies.rows.stream_id.Field.{Field}

-- the text of a tree, or a question mark if it is not a text
abbrev pub tree_form : Tree → List ℕ
tree_form t = unwrap_or (text_reading t) (codes "?")

-- the same of a value
abbrev pub value_form : Value → List ℕ
value_form v = tree_form (tree v)

-- a name, an equals sign, and its value
abbrev pub pair_form : List ℕ × Tree → List ℕ
pair_form p = p.0 ++ codes "=" ++ tree_form p.1

-- the name and the value of a field
abbrev pub pair_of : Field → List ℕ × Tree
pair_of f = (f.name.now, tree f.value.now)

-- the same of a map's entries, which borrow both
abbrev pub pairs_of : List (Bor (List ℕ) × Bor Value) → List (List ℕ × Tree)
pairs_of fields = map (λ f. (f.0.now, tree f.1.now)) fields

-- a field by its name and its value
abbrev pub field_form : Field → List ℕ
field_form f = pair_form (pair_of f)

-- the fields inserted one after another into a list that is kept in the order of the names' bytes
abbrev pub put_all : List (List ℕ × Tree) → List (String Global × Value) → List (List ℕ × Tree)
put_all sorted [] = sorted
put_all sorted (f ∷ fs) = put_all (insert_entry (slice_cmp nat_cmp) sorted (string_bytes f.0) (tree f.1)) fs

-- the fields in the order of the names' bytes, with commas between them
abbrev pub fields_form : List (String Global × Value) → List ℕ
fields_form fields = join_by pair_form (codes ",") (put_all [] fields)

-- a number after its mark, or nothing if it is not known
abbrev pub marked_form : List ℕ → Option ℕ → List ℕ
marked_form mark (Some n) = mark ++ decimal n
marked_form mark None = []

-- the id, the fields in parentheses, and the two numbers
unfoldable pub entry_form : StreamId → List ℕ
entry_form e =
    string_bytes e.id ++ codes "(" ++ fields_form e.map.entries ++ codes ")"
    ++ marked_form (codes "@") e.milliseconds_elapsed_from_delivery ++ marked_form (codes "#") e.delivered_count
