-- Rows with keys: which rows a table has, before and after rows are inserted.
use Rattle.std.specs.Prelude.{◌≡◌, ◌⊎◌, ◌&&◌, ◌==◌, ℕ, ℤ, Bool, true, false, List, [], ◌∷◌, ◌++◌, Option, Some, None, is_some}
use Rattle.std.specs.Prelude.{option_map, if◌then◌else◌, IfSome}
use Rattle.std.specs.List.{AllByRecursion}

-- a key: two numbers
abbrev pub Key : Type 0
Key = ℕ × ℕ

-- a value in a row: null, an integer, a text or bytes
pub data Cell : Type 0 where
  null : Cell
  integer : ℤ → Cell
  text : List ℕ → Cell
  blob : List ℕ → Cell

-- a row: its key and its values
abbrev pub Row : Type 0
Row = Key × List Cell

-- whether both numbers of the keys are equal
abbrev pub same_key : Key → Key → Bool
same_key a b = (a.0 == b.0) && (a.1 == b.1)

-- the values of the first row with the key `k`
abbrev pub find : Key → List Row → Option (List Cell)
find k [] = None
find k (r ∷ rs) = if same_key r.0 k then Some r.1 else find k rs

-- appends the row, unless its key exists
abbrev pub with_row : List Row → Row → List Row
with_row rows r = if is_some (find r.0 rows) then rows else rows ++ r ∷ []

-- appends the rows one by one
abbrev pub with_rows : List Row → List Row → List Row
with_rows rows [] = rows
with_rows rows (r ∷ more) = with_rows (with_row rows r) more

-- `rows` has the row `r`, with its own values
abbrev pub IsRow : List Row → Row → Type 0
IsRow rows r = find r.0 rows ≡ Some r.1

-- `rows` has each row of `more`, with its own values
abbrev pub AreRows : List Row → List Row → Type 0
AreRows rows more = AllByRecursion (IsRow rows) more

-- no two rows have the same key
abbrev pub KeysApart : List Row → Type 0
KeysApart [] = Unit {0}
KeysApart (r ∷ rs) = (find r.0 rs ≡ None) × KeysApart rs

-- `all` are the rows, and perhaps more rows after them
abbrev pub BeginsWith : List Row → List Row → Type 0
BeginsWith rows all = (behind : List Row) × (all ≡ rows ++ behind)

-- inserts `more` into the rows, if these are known
abbrev pub with_known : List Row → Option (List Row) → Option (List Row)
with_known more known = option_map (λ rows. with_rows rows more) known

-- if the rows are known, they contain each row of `more` with its own values
abbrev pub AreKnown : List Row → Option (List Row) → Type 0
AreKnown more known = IfSome known (λ rows. AreRows rows more)

-- `true`: all rows of `more` were inserted, each with its own values. `false`: none was.
abbrev pub PutsIn : Bool → List Row → Option (List Row) → Option (List Row) → Type 0
PutsIn true more old new = (new ≡ with_known more old) × AreKnown more new
PutsIn false more old new = new ≡ old

-- a crash leaves exactly the known contents, if they are known
abbrev pub LeavesJust : {A : Type 0} → Option A → (A → Type 0) → Type 0
LeavesJust {A} known may_leave = (left : A) → may_leave left → IfSome known (λ is. left ≡ is)

-- whatever a crash leaves begins with the known rows, if they are known
abbrev pub LeavesAll : Option (List Row) → (List Row → Type 0) → Type 0
LeavesAll known may_leave = (left : List Row) → may_leave left → IfSome known (λ rows. BeginsWith rows left)

-- each outcome of a crash now was also a possible outcome before
abbrev pub LeavesNoOther : {A : Type 0} → (A → Type 0) → (A → Type 0) → Type 0
LeavesNoOther {A} old new = (left : A) → new left → old left

-- no transaction is open, if that is known
abbrev pub IsClosed : Option Bool → Type 0
IsClosed known = IfSome known (λ is_open. is_open ≡ false)

-- each outcome of a crash now was also a possible outcome before, or is the known contents
abbrev pub LeavesOldOr : {A : Type 0} → Option A → (A → Type 0) → (A → Type 0) → Type 0
LeavesOldOr {A} known old new = (left : A) → new left → old left ⊎ IfSome known (λ is. left ≡ is)
