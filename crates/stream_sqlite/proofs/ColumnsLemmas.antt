-- A list of columns, part by part.
use Rattle.std.proofs.Common.{◌≡◌, ◌<◌, ◌≤◌, ◌-◌, ◌∙◌, ◌++◌, ◌∷◌, ◌==◌, [], ℕ, Bool, List, None, Option, Some, ap, arith, drop, get_or}
use Rattle.std.proofs.Common.{length, map, option_map, refl, sym, take}
use Rattle.std.specs.List.{after_first, before_first, position_or_len, slice_split}
use Rattle.std.proofs.lemmas.List.{take_rest}
use Rattle.std.proofs.lemmas.List.Splits.{slice_split_first, slice_split_none}
use Rattle.std.proofs.lemmas.List.Sums.{fails_before_first}
use Rattle.worker_table.specs.declared.row_table.cell.Kind.{Kind}
use Rattle.command_lines.specs.Words.{Text}
use Rattle.stream_sqlite.specs.Columns.{Shape, all_of, at_last_colon, column_by, column_in, columns_in, kind_in, named, one_before}

-- a comma
abbrev comma : ℕ → Bool
comma b = b == 44

-- the columns of these parts
abbrev of_parts : List Text → Option (List Shape)
of_parts parts = all_of (map column_in parts)

-- with one more column before them
first_of : (c : Shape) (column : Option Shape) (more : Option (List Shape)) (cs : List Shape) (all : List (Option Shape))
    → column ≡ Some c → all_of all ≡ more → more ≡ Some cs → all_of (column ∷ all) ≡ Some (c ∷ cs)
first_of c column more cs all is same are =
    ap (λ (o : Option Shape). all_of (o ∷ all)) is
    ∙ ap (λ (o : Option (List Shape)). option_map (λ columns. c ∷ columns) o) (same ∙ are)

-- a list that has a comma: the part before it, and the list after it
pub one_more : (list part behind : Text) (c : Shape) (cs : List Shape) → position_or_len comma list < length list
    → part ≡ before_first comma list → behind ≡ after_first comma list → column_in part ≡ Some c
    → columns_in behind ≡ Some cs → columns_in list ≡ Some (c ∷ cs)
one_more list part behind c cs inside front back is are =
    ap of_parts (slice_split_first comma list 0 inside)
    ∙ first_of c (column_in (before_first comma list)) (columns_in (after_first comma list)) cs
    (map column_in (slice_split comma (after_first comma list)))
    (ap column_in (sym front) ∙ is) refl (ap columns_in (sym back) ∙ are)

-- a list without a comma is one part
pub one_part : (list : Text) → position_or_len comma list ≡ length list → slice_split comma list ≡ list ∷ []
one_part list none = slice_split_none comma list
    (λ i d within. fails_before_first comma list i d (omega (arith, none)))

pub only_one : (list : Text) (c : Shape) → position_or_len comma list ≡ length list → column_in list ≡ Some c
    → columns_in list ≡ Some (c ∷ [])
only_one list c none is = ap of_parts (one_part list none)
    ∙ first_of c (column_in list) (Some []) [] [] is refl refl

-- a name, a colon, and a text without one
pub cut_there : (name kind : Text) → at_last_colon kind ≡ None → at_last_colon (name ++ 58 ∷ kind) ≡ Some (name, kind)
cut_there [] kind whole = ap (one_before 58 kind) whole
cut_there (b ∷ name) kind whole = ap (one_before b (name ++ 58 ∷ kind)) (cut_there name kind whole)

-- a name, a colon, and the word of a kind
pub column_is : (part name word : Text) (kind : Kind) (optional : Bool) → part ≡ name ++ 58 ∷ word
    → at_last_colon word ≡ None → kind_in word ≡ Some (kind, optional) → column_in part ≡ Some (name, kind, optional)
column_is part name word kind optional is whole of = ap column_in is ∙ (ap column_by (cut_there name word whole)
    ∙ ap (named name) of)

-- the first item and the others
pub first_and_more : {X : Type 0} (xs : List X) (x : X) → 1 ≤ length xs → x ≡ get_or xs 0 x
    → xs ≡ x ∷ take (length xs - 1) (drop 1 xs)
first_and_more [] x some is = absurd (omega arith)
first_and_more (y ∷ ys) x some is = ap (λ z. z ∷ ys) (sym is) ∙ ap (λ zs. x ∷ zs) (sym (take_rest (y ∷ ys) 1))
