-- The texts of the statements of a table.
use Rattle.std.specs.Prelude.{◌≡◌, ◌==◌, ℕ, zero, suc, List, [], ◌∷◌, ◌++◌, Bool, codes, flat_map, length, if◌then◌else◌, string_bytes}
use Rattle.worker_table.specs.declared.row_table.cell.Column.{Column}
use Rattle.worker_table.specs.declared.row_table.cell.Kind.{Kind}
use Rattle.worker_table.specs.declared.row_table.cell.Kind.TheVariants.{Text, Integer, Blob}
use Rattle.worker_sqlite.specs.declared.form.Form.{Form}

-- a byte of a quoted name: a double quote is written twice
abbrev pub quoted_byte : ℕ → List ℕ
quoted_byte b = if b == 34 then 34 ∷ 34 ∷ [] else b ∷ []

-- a name in double quotes
abbrev pub quoted : List ℕ → List ℕ
quoted name = 34 ∷ (flat_map quoted_byte name ++ 34 ∷ [])

-- the type name of a column in SQL
abbrev pub kind_text : Kind → List ℕ
kind_text Text = codes " TEXT"
kind_text Integer = codes " INTEGER"
kind_text Blob = codes " BLOB"

-- the constraint of a column. `optional` says whether a row may have no value there.
abbrev pub null_text : Bool → List ℕ
null_text optional = if optional then codes "" else codes " NOT NULL"

-- the definition of a column in `CREATE TABLE`, with a comma
abbrev pub column_text : Column → List ℕ
column_text c = quoted (string_bytes c.name) ++ (kind_text c.kind ++ (null_text c.optional ++ codes ", "))

-- the condition for a column: its value equals the next parameter, or both are null
abbrev pub condition_text : Column → List ℕ
condition_text c = codes " AND " ++ (quoted (string_bytes c.name) ++ codes " IS ?")

-- the placeholder of one more value, with a comma
abbrev pub value_text : Column → List ℕ
value_text c = codes ", ?"

-- `text` repeated `n` times
abbrev pub repeated : ℕ → List ℕ → List ℕ
repeated zero text = []
repeated (suc n) text = repeated n text ++ text

-- the placeholders of a row: two for its key, and `width` for its values
abbrev pub places_text : ℕ → List ℕ
places_text width = codes "(?, ?" ++ (repeated width (codes ", ?") ++ codes ")")

-- the placeholders of `rows` more rows, each after a comma
abbrev pub more_places_text : ℕ → ℕ → List ℕ
more_places_text width rows = repeated rows (codes ", " ++ places_text width)

-- the statement that creates the table: the two numbers of the key, and the columns
abbrev pub create_text : List ℕ → List Column → List ℕ
create_text table columns = codes "CREATE TABLE " ++ (quoted table ++ (codes " (milliseconds INTEGER NOT NULL, sequence INTEGER NOT NULL, " ++ (flat_map column_text columns ++ codes "PRIMARY KEY (milliseconds, sequence)) STRICT")))

-- the statement that inserts a row, unless its key exists
abbrev pub insert_text : List ℕ → List Column → List ℕ
insert_text table columns = codes "INSERT INTO " ++ (quoted table ++ (codes " VALUES (?, ?" ++ (flat_map value_text columns ++ codes ") ON CONFLICT DO NOTHING")))

-- the statement that inserts fifty rows of `width` values each, and fails if one of their keys exists
abbrev pub insert_many_text : List ℕ → ℕ → List ℕ
insert_many_text table width = codes "INSERT INTO " ++ (quoted table ++ (codes " VALUES " ++ (places_text width ++ more_places_text width 49)))

-- the query that returns one row if the row with this key has these values, and otherwise no row
abbrev pub holds_text : List ℕ → List Column → List ℕ
holds_text table columns = codes "SELECT 1 FROM " ++ (quoted table ++ (codes " WHERE milliseconds = ? AND sequence = ?" ++ flat_map condition_text columns))

-- `form` contains the statements of the table `table` with these columns
pub record IsFormOf (table : List ℕ) (columns : List Column) (form : Form) : Type 0 where
  pub create : string_bytes form.create ≡ create_text table columns
  pub insert : string_bytes form.insert ≡ insert_text table columns
  pub insert_many : string_bytes form.insert_many ≡ insert_many_text table (length columns)
  pub holds : string_bytes form.holds ≡ holds_text table columns

-- the statement that creates the table `entries` with one text column
abbrev pub usual_create : List ℕ
usual_create = codes "CREATE TABLE entries (milliseconds INTEGER NOT NULL, sequence INTEGER NOT NULL, fields TEXT NOT NULL, PRIMARY KEY (milliseconds, sequence)) STRICT"

-- the statement that inserts a row into `entries`, unless its key exists
abbrev pub usual_insert : List ℕ
usual_insert = codes "INSERT INTO entries (milliseconds, sequence, fields) VALUES (?1, ?2, ?3) ON CONFLICT DO NOTHING"

-- the query that returns one row if the row of `entries` with this key has this text, and otherwise no row
abbrev pub usual_holds : List ℕ
usual_holds = codes "SELECT 1 FROM entries WHERE milliseconds = ?1 AND sequence = ?2 AND fields IS ?3"

-- `form` contains the statements of the table `entries`
pub record IsUsual (form : Form) : Type 0 where
  pub create : string_bytes form.create ≡ usual_create
  pub insert : string_bytes form.insert ≡ usual_insert
  pub insert_many : string_bytes form.insert_many ≡ insert_many_text (codes "entries") 1
  pub holds : string_bytes form.holds ≡ usual_holds
