-- Laws of inserted rows.
use Rattle.std.specs.Prelude.{◌≡◌, ◌++◌, ◌∷◌, List, Some, IsSome}
use Rattle.worker_table.specs.RowTable.Rows.{Cell, Key, Row, find, with_rows, KeysApart, BeginsWith}

-- the law: An existing key keeps its values, whatever is inserted. The first rows remain first. Distinct keys
-- remain distinct. The key of each inserted row is in the table. Rows may be inserted at once or one by one.
pub record RowsArePutIn : Type 0 where
  pub stays : (rows more : List Row) (k : Key) (cells : List Cell) → find k rows ≡ Some cells
      → find k (with_rows rows more) ≡ Some cells
  pub in_front : (rows more : List Row) → BeginsWith rows (with_rows rows more)
  pub apart : (rows more : List Row) → KeysApart rows → KeysApart (with_rows rows more)
  pub there : (rows before : List Row) (r : Row) (behind : List Row)
      → IsSome (find r.0 (with_rows rows (before ++ r ∷ behind)))
  pub in_turn : (rows a b : List Row) → with_rows rows (a ++ b) ≡ with_rows (with_rows rows a) b
