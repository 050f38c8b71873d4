-- The statements that a table runs, and their effects on a database.
use Rattle.std.specs.Prelude.{ℕ, ◌==◌, ◌≡◌, ◌⊎◌, List, [], ◌∷◌, ◌++◌, Bool, true, false, map, Ok, Err, Option, Some, None, Result, codes, pos}
use Rattle.sqlite.specs.Order.{Row as SqlRow, column}
use Rattle.sqlite.specs.Store.{Ghosts}
use Rattle.sqlite.specs.Held.{Held, state}
use Rattle.sqlite.specs.State.{CommitsBy, Executes, HasCleanDisk, QueriesRow, Survives}
use Rattle.sqlite.specs.declared.error.Error.TheVariants.{QueryReturnedNoRows, SqliteFailure}
use Rattle.sqlite.specs.declared.error.ErrorCode.TheVariants.{ConstraintViolation}
use Rattle.sqlite.specs.declared.types.Value.{Value}
use Rattle.sqlite.specs.declared.types.Value.TheVariants.{Null, Int, Text, Blob}
use Rattle.worker_table.specs.RowTable.Rows as rows
use Rattle.worker_table.specs.RowTable.Rows.{Cell, Key, Row}
use Rattle.worker_table.specs.declared.row_table.error.TableError.{TableError}
use Rattle.worker_table.specs.declared.row_table.error.TableError.TheVariants.{Memory, Refused}
use Rattle.worker_sqlite.specs.declared.error.OpenError.{OpenError}
use Rattle.worker_sqlite.specs.declared.error.OpenError.TheVariants as opening

-- memory ran out, or the database refused the operation
abbrev pub IsNamed : TableError → Type 0
IsNamed e = (e ≡ Memory) ⊎ ((why : _) × (e ≡ Refused why))

-- memory ran out, the database refused the operation, or another table with this name exists
abbrev pub IsNamedAtOpening : OpenError → Type 0
IsNamedAtOpening (opening.Table e) = IsNamed e
IsNamedAtOpening (opening.Another there) = Unit {0}

-- the query for the statement that created the table with a name
abbrev pub known_text : List ℕ
known_text = codes "SELECT sql FROM sqlite_schema WHERE lower(name) = lower(?1)"

-- the value of a cell, as a value of SQL
abbrev pub value_of : Cell → Value
value_of rows.null = Null
value_of (rows.integer n) = Int n
value_of (rows.text t) = Text t
value_of (rows.blob b) = Blob b

-- the values of the cells, as values of SQL
abbrev pub values_of : List Cell → SqlRow
values_of cells = map value_of cells

-- the key of a row as values of SQL
abbrev pub key_values : Key → SqlRow
key_values k = Int (pos k.0) ∷ Int (pos k.1) ∷ []

-- the key and the values of a row, as values of SQL
abbrev pub row_values : Row → SqlRow
row_values r = key_values r.0 ++ values_of r.1

module _ {S : Type 0} (g : Ghosts S) (old new : Held S) where
  -- if the disk is honest, the database executed the statement with these values, and changed `count` rows
  abbrev pub Ran : List ℕ → SqlRow → ℕ → Type 0
  Ran sql values count = HasCleanDisk (state g new) → Executes sql values (state g old) (state g new) (Ok count)

  -- the database executed the statement with these values, and `one` says whether it changed exactly one row
  abbrev pub RanOne : List ℕ → SqlRow → Bool → Type 0
  RanOne sql values one = (count : ℕ) × (one ≡ (count == 1)) × Ran sql values count

  -- `true`: if the disk is honest, the database executed the statement with these values. `false`: the
  -- statement was not executed, or it violated a constraint.
  abbrev pub RanAll : List ℕ → SqlRow → Bool → Type 0
  RanAll sql values true = (count : ℕ) × Ran sql values count
  RanAll sql values false = (new ≡ old) ⊎ (HasCleanDisk (state g new)
      → (rule : _) × Executes sql values (state g old) (state g new) (Err (SqliteFailure (ConstraintViolation rule))))

  -- if the disk is honest, the query with these values returned a row (`true`) or no row (`false`)
  abbrev pub Shows : List ℕ → SqlRow → Bool → Type 0
  Shows sql values false = HasCleanDisk (state g new) → QueriesRow sql values (state g old) (state g new) (Err QueryReturnedNoRows)
  Shows sql values true = HasCleanDisk (state g new)
      → (row : SqlRow) × QueriesRow sql values (state g old) (state g new) (Ok row)

  -- if the disk is honest, the query returned no row, or the first value of its first row is `text`
  abbrev pub Found : List ℕ → SqlRow → Option (List ℕ) → Type 0
  Found sql values None = HasCleanDisk (state g new) → QueriesRow sql values (state g old) (state g new) (Err QueryReturnedNoRows)
  Found sql values (Some text) = HasCleanDisk (state g new)
      → (row : SqlRow) × QueriesRow sql values (state g old) (state g new) (Ok row) × (column row 0 ≡ Text text)

  -- no transaction was open and nothing was executed, or the database was asked to execute `ROLLBACK`
  abbrev pub TakesBack : Type 0
  TakesBack = (((state g old).in_transaction ≡ false) × (new ≡ old))
      ⊎ (HasCleanDisk (state g new) → (ended : Result ℕ _) × Executes (codes "ROLLBACK") [] (state g old) (state g new) ended)

  -- a crash leaves what it could leave before, or what the statement commits
  abbrev pub LeavesBy : List ℕ → SqlRow → Type 0
  LeavesBy sql values = Survives (state g old) (state g new) (CommitsBy sql values (state g old))

-- The query returned `create` as the statement that created the table `name`. Or it returned no row, and then
-- the statement `create` was executed. Nothing else was executed.
abbrev pub IsMade : {S : Type 0} → Ghosts S → Held S → Held S → List ℕ → List ℕ → Type 0
IsMade {S} g old new name create = Found g old new known_text (Text name ∷ []) (Some create)
    ⊎ ((between : Held S) × Found g old between known_text (Text name ∷ []) None × ((count : ℕ) × Ran g between new create [] count))
