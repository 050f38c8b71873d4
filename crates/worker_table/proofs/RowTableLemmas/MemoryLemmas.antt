-- Rows in memory: which one a search finds, copies of them, and comparisons.
use Rattle.std.proofs.Common.{◌≡◌, ◌∙◌, refl, sym, ap, ℕ, ℤ, pos, arith, Bool, true, false, true≢false, ◌&&◌, List, [], ◌∷◌, ◌++◌}
use Rattle.std.proofs.Common.{Option, Some, None, cond, option_map, is_some, if◌then◌else◌, Bor, MatchOption, length}
use Rattle.std.proofs.lemmas.Bool.Decides.{Decides-int_eq}
use Rattle.std.proofs.lemmas.List.Elements.{same_from_all_zip}
use Rattle.std.proofs.lemmas.Option.{none-some, same_Some}
use Rattle.std.proofs.lemmas.Slice.Eq.{bytes_eq-Decides}
use Rattle.std.specs.Bool.{Decides}
use Rattle.std.specs.Cmp.Lexicographic.{pointwise}
use Rattle.std.specs.List as list
use Rattle.std.specs.List.{AllZip}
use Rattle.worker_table.specs.RowTable.OfRow.{cell_of, cells_of, key_of, row_of, rows_of}
use Rattle.worker_table.specs.RowTable.Rows as rows
use Rattle.worker_table.specs.RowTable.Rows.{Key, find, same_key, with_row}
use Rattle.worker_table.specs.contracts.row_table.cell.CellClone.TheImpl.{ghosts as copying}
use Rattle.worker_table.specs.contracts.row_table.cell.CellPartialEq.TheImpl.{ghosts as comparing}
use Rattle.worker_table.specs.declared.row_table.cell.Cell.{Cell}
use Rattle.worker_table.specs.declared.row_table.cell.Cell.TheVariants.{Null, Integer, Text, Blob}
use Rattle.worker_table.specs.declared.row_table.row.Row.{Row}
use Rattle.worker_table.proofs.RowTableLemmas.PutLemmas.{map_both}
use Rattle.worker_table.proofs.RowTableLemmas.RowsLemmas.{both_true}

-- ---- a search

found_step : (b : Bool) (r : Row) (o : Option Row) (p : Option (List rows.Cell))
    → option_map (λ (x : Row). cells_of x.cells.items) o ≡ p
    → option_map (λ (x : Row). cells_of x.cells.items) (cond b (Some r) o) ≡ (if b then Some (cells_of r.cells.items) else p)
found_step true r o p h = refl
found_step false r o p h = h

found_in : (k : Key) (rs : List Row) → option_map (λ (x : Row). cells_of x.cells.items) (list.find (λ x. same_key (key_of x) k) rs)
    ≡ find k (rows_of rs)
found_in k [] = refl
found_in k (r ∷ rs) = found_step (same_key (key_of r) k) r (list.find (λ x. same_key (key_of x) k) rs) (find k (rows_of rs))
    (found_in k rs)

cells_at : (o : Option (Bor Row)) → option_map (λ (x : Bor Row). cells_of x.now.cells.items) o
    ≡ option_map (λ (x : Row). cells_of x.cells.items) (option_map (λ (x : Bor Row). x.now) o)
cells_at None = refl
cells_at (Some x) = refl

-- the row that a search by its key finds
pub found_row : (k : Key) (rs : List Row) (o : Option (Bor Row))
    → option_map (λ (x : Bor Row). x.now) o ≡ list.find (λ x. same_key (key_of x) k) rs
    → option_map (λ (x : Bor Row). cells_of x.now.cells.items) o ≡ find k (rows_of rs)
found_row k rs o is =
    cells_at o ∙ ap (λ (x : Option Row). option_map (λ (y : Row). cells_of y.cells.items) x) is ∙ found_in k rs

-- ---- a copy

abbrev IsCopy : Cell → Cell → Type 0
IsCopy = copying.is_clone

cell_copied : (x y : Cell) → IsCopy x y → cell_of y ≡ cell_of x
cell_copied Null Null h = refl
cell_copied (Integer m) (Integer n) h = ap rows.integer h
cell_copied (Text v) (Text w) h = ap rows.text (same_from_all_zip _ v.items w.items h.0 (λ x y e. e))
cell_copied (Blob v) (Blob w) h = ap rows.blob (same_from_all_zip _ v.items w.items h.0 (λ x y e. e))
cell_copied x y h = absurd h

cells_copied : (xs ys : List Cell) → AllZip IsCopy xs ys → cells_of ys ≡ cells_of xs
cells_copied [] [] h = refl
cells_copied [] (y ∷ ys) h = absurd h
cells_copied (x ∷ xs) [] h = absurd h
cells_copied (x ∷ xs) (y ∷ ys) h = λ i. cell_copied x y h.0 i ∷ cells_copied xs ys h.1 i

-- a copy of a row that was not there comes after the others
pub put_behind : (old new : List Row) (r copy : Row) → copy.first ≡ r.first → copy.second ≡ r.second
    → AllZip IsCopy r.cells.items copy.cells.items → new ≡ old ++ copy ∷ []
    → is_some (find (key_of r) (rows_of old)) ≡ false → rows_of new ≡ with_row (rows_of old) (row_of r)
put_behind old new r copy first second cells is none =
    let same : row_of copy ≡ row_of r =
    λ i. ((first i, second i), cells_copied r.cells.items copy.cells.items cells i) in
    ap rows_of is ∙ map_both old (copy ∷ []) ∙ ap (λ (x : rows.Row). rows_of old ++ x ∷ []) same
    ∙ sym (ap (λ (b : Bool). if b then rows_of old else rows_of old ++ row_of r ∷ []) none)

-- ---- a comparison

abbrev is_equal : Cell → Cell → Bool
is_equal = comparing.eq

kind_of : rows.Cell → ℕ
kind_of rows.null = 0
kind_of (rows.integer n) = 1
kind_of (rows.text bytes) = 2
kind_of (rows.blob bytes) = 3

number_in : rows.Cell → ℤ
number_in (rows.integer n) = n
number_in _ = pos 0

bytes_in : rows.Cell → List ℕ
bytes_in (rows.text bytes) = bytes
bytes_in (rows.blob bytes) = bytes
bytes_in _ = []

cell_decides : (x y : Cell) → Decides (is_equal x y) (cell_of x ≡ cell_of y)
unfolding kind_of number_in bytes_in
cell_decides Null Null = (λ h. refl, λ h. refl)
cell_decides (Integer m) (Integer n) =
    let by = Decides-int_eq m n in (λ h. ap rows.integer (by.0 h), λ h. by.1 (ap number_in h))
cell_decides (Text v) (Text w) =
    let by = bytes_eq-Decides v.items w.items in (λ h. ap rows.text (by.0 h), λ h. by.1 (ap bytes_in h))
cell_decides (Blob v) (Blob w) =
    let by = bytes_eq-Decides v.items w.items in (λ h. ap rows.blob (by.0 h), λ h. by.1 (ap bytes_in h))
cell_decides x y = (λ h. absurd (true≢false (sym h)), λ h. absurd (let no : ⊥ = omega (arith, ap kind_of h) in no))

head_in : List rows.Cell → rows.Cell
head_in [] = rows.null
head_in (x ∷ xs) = x

tail_in : List rows.Cell → List rows.Cell
tail_in [] = []
tail_in (x ∷ xs) = xs

both : (a b : Bool) → a ≡ true → b ≡ true → a && b ≡ true
both a b x y = rw (x, y) refl

cells_decide : (xs ys : List Cell) → Decides (pointwise is_equal xs ys) (cells_of xs ≡ cells_of ys)
unfolding head_in tail_in
cells_decide [] [] = (λ h. refl, λ h. refl)
cells_decide [] (y ∷ ys) = (λ h. absurd (true≢false (sym h)), λ h. absurd (let no : ⊥ = omega (arith, ap length h) in no))
cells_decide (x ∷ xs) [] = (λ h. absurd (true≢false (sym h)), λ h. absurd (let no : ⊥ = omega (arith, ap length h) in no))
cells_decide (x ∷ xs) (y ∷ ys) =
    let one = cell_decides x y in
    let more = cells_decide xs ys in (
      λ h. let parts = both_true (is_equal x y) (pointwise is_equal xs ys) h in λ i. one.0 parts.0 i ∷ more.0 parts.1 i,
      λ h. both (is_equal x y) (pointwise is_equal xs ys) (one.1 (ap head_in h)) (more.1 (ap tail_in h)),
    )

-- whether the row of a key that was found has these values
pub has_values : (o : Option (Bor Row)) (found : Option (List rows.Cell)) (cells : List Cell) (is_there : Bool)
    → option_map (λ (x : Bor Row). cells_of x.now.cells.items) o ≡ found
    → MatchOption o (is_there ≡ false) (λ x. is_there ≡ pointwise is_equal x.now.cells.items cells)
    → Decides is_there (found ≡ Some (cells_of cells))
has_values None found cells is_there is h =
    (λ yes. absurd (true≢false (sym yes ∙ h)), λ same. absurd (none-some (cells_of cells) (is ∙ same)))
has_values (Some x) found cells is_there is h =
    let by = cells_decide x.now.cells.items cells in
    (λ yes. sym is ∙ ap Some (by.0 (sym h ∙ yes)), λ same. h ∙ by.1 (same_Some (cells_of x.now.cells.items) (cells_of cells) (is ∙ same)))
