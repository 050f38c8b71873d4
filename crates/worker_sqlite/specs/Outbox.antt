-- The statements of an outbox, and their effects on a database.
use Rattle.std.specs.Prelude.{ℕ, ◌≡◌, ◌≢◌, ◌⊎◌, Bool, true, false, List, [], ◌∷◌, ◌++◌, Ok, Err, Option, Some, None, codes, pos}
use Rattle.sqlite.specs.Order.{Row as SqlRow, column}
use Rattle.sqlite.specs.Store.{Ghosts}
use Rattle.sqlite.specs.Held.{Held, state}
use Rattle.sqlite.specs.State.{HasCleanDisk, QueriesRow}
use Rattle.sqlite.specs.declared.error.Error.TheVariants.{QueryReturnedNoRows}
use Rattle.sqlite.specs.declared.types.Value.{Value}
use Rattle.sqlite.specs.declared.types.Value.TheVariants.{Int, Blob, Text}
use Rattle.worker_table.specs.RowTable.Posts.{Post}
use Rattle.worker_sqlite.specs.Statements.{Found, key_values, known_text}

-- the statement that creates the outbox, whose key is the key of a row
abbrev pub outbox_create : List ℕ
outbox_create = codes "CREATE TABLE outbox (milliseconds INTEGER NOT NULL, sequence INTEGER NOT NULL, command BLOB NOT NULL, question BLOB NOT NULL, PRIMARY KEY (milliseconds, sequence)) STRICT"

-- the statement that inserts a post
abbrev pub enqueue_text : List ℕ
enqueue_text = codes "INSERT INTO outbox (milliseconds, sequence, command, question) VALUES (?1, ?2, ?3, ?4)"

-- the query that returns the post with the smallest key
abbrev pub first_text : List ℕ
first_text = codes "SELECT milliseconds, sequence, command, question FROM outbox ORDER BY milliseconds, sequence LIMIT 1"

-- the query that counts the posts
abbrev pub count_text : List ℕ
count_text = codes "SELECT count(*) FROM outbox"

-- the statement that removes the post with a key
abbrev pub remove_text : List ℕ
remove_text = codes "DELETE FROM outbox WHERE milliseconds = ?1 AND sequence = ?2"

-- the natural number `n` as a value of SQL
abbrev pub number_value : ℕ → Value
number_value n = Int (pos n)

-- bytes as a value of SQL
abbrev pub bytes_value : List ℕ → Value
bytes_value bytes = Blob bytes

-- a post as values of SQL
abbrev pub post_values : Post → SqlRow
post_values p = key_values p.key ++ bytes_value p.command ∷ bytes_value p.question ∷ []

-- the first four values of `row` are those of the post `p`
pub record AreValues (row : SqlRow) (p : Post) : Type 0 where
  pub first : column row 0 ≡ number_value p.key.0
  pub second : column row 1 ≡ number_value p.key.1
  pub command : column row 2 ≡ bytes_value p.command
  pub question : column row 3 ≡ bytes_value p.question

module _ {S : Type 0} (g : Ghosts S) (old new : Held S) where
  -- if the disk is honest, the query returned no row, or its first row has the values of the post `p`
  abbrev pub FoundPost : List ℕ → Option Post → Type 0
  FoundPost sql None = HasCleanDisk (state g new) → QueriesRow sql [] (state g old) (state g new) (Err QueryReturnedNoRows)
  FoundPost sql (Some p) = HasCleanDisk (state g new)
      → (row : SqlRow) × QueriesRow sql [] (state g old) (state g new) (Ok row) × AreValues row p

  -- if the disk is honest, the query returned `count` as the number of posts
  abbrev pub Counts : ℕ → Type 0
  Counts count = HasCleanDisk (state g new)
      → (row : SqlRow) × QueriesRow count_text [] (state g old) (state g new) (Ok row) × (column row 0 ≡ number_value count)

  -- `true`: if the disk is honest, the query returned `outbox_create` as the statement that created the outbox.
  -- `false`: it returned another statement, or no row.
  abbrev pub ShowsOutbox : Bool → Type 0
  ShowsOutbox true = Found g old new known_text (Text (codes "outbox") ∷ []) (Some outbox_create)
  ShowsOutbox false = (known : Option (List ℕ)) × (known ≢ Some outbox_create) × Found g old new known_text (Text (codes "outbox") ∷ []) known

module _ {S : Type 0} (g : Ghosts S) (old new : Held S) where
  -- `None`: the queries found no outbox, or no post in it. `Some`: they returned the first post and the number
  -- of posts.
  abbrev pub WaitsIn : Option (ℕ × Post) → Type 0
  WaitsIn None = ShowsOutbox g old new false ⊎ ((m : Held S) × ShowsOutbox g old m true × FoundPost g m new first_text None)
  WaitsIn (Some w) = (m : Held S) × (n : Held S) × ShowsOutbox g old m true × FoundPost g m n first_text (Some w.1) × Counts g n new w.0
