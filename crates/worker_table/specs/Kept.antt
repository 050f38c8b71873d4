-- The rows that a handler has gathered, and those that are committed.
use Rattle.std.specs.Prelude.{◌≡◌, List, [], ◌∷◌, ◌++◌, map, Option, Some, None}
use Rattle.worker_table.specs.RowTable.OfRow.{rows_of}
use Rattle.worker_table.specs.RowTable.Rows.{Key, Row, with_known}
use Rattle.worker_table.specs.declared.row_table.cell.Column.{Column}
use Rattle.worker_table.specs.declared.row_table.row.Row as memory
use Rattle.model_server.specs.Group.Worker.{Entry, Id, Verdict, done, left_pending, stop}
use Rattle.stream_in_place.specs.IdParts.{id_in}
use Rattle.stream_in_place.specs.Sent.{Pairs}
use Rattle.stream_in_place.specs.declared.id_parts.StreamIdParts.{StreamIdParts}
use Rattle.worker.specs.Gathered.{Doings, committed_too, done_too}
use Rattle.worker_table.specs.Cells.{cells_in}

-- the two numbers of an id, or 0-0 if the text is not an id. No handler makes a row of such a text.
abbrev pub key_by : Option StreamIdParts → Key
key_by None = (0, 0)
key_by (Some id) = (id.ms, id.seq)

-- the two numbers of an id, parsed from its text
abbrev pub key_in : Id → Key
key_in id = key_by (id_in id)

-- the row of the entry `e`: the id as the key, and the values for the columns
abbrev pub row_in : List Column → Entry Pairs → Row
row_in columns e = (key_in e.0, cells_in columns e.1)

-- the rows of the entries, in order
abbrev pub rows_in : List Column → List (Entry Pairs) → List Row
rows_in columns es = map (row_in columns) es

-- the rows that a handler has gathered and committed
pub record Kept : Type 0 where
  pub columns : List Column  -- of its rows
  pub loose : List Row  -- gathered and not committed
  pub committed : Option (List Row)  -- committed, if the table is known

-- the rows of a handler: `loose` are gathered, and `known` are committed
abbrev pub kept_by : List Column → List memory.Row → Option (List Row) → Kept
kept_by columns loose known = record { columns = columns; loose = rows_of loose; committed = known }

-- adds the row of the entry `e` to the gathered rows, if the verdict is `done`
abbrev pub kept_too : Kept → Entry Pairs → Verdict → Kept
kept_too k e done = record k { loose = k.loose ++ row_in k.columns e ∷ [] }
kept_too k e left_pending = k
kept_too k e stop = k

-- commits the gathered rows
abbrev pub committed_with : Kept → Kept
committed_with k = record k { loose = []; committed = with_known k.loose k.committed }

-- the start of a handler: the columns, and the rows of the table, if they are known
abbrev pub Beginning : Type 0
Beginning = List Column × Option (List Row)

-- the gathered and committed rows of the history `d`, after the first rows
abbrev pub kept_of : Beginning → Doings → Kept
kept_of first d = record {
  columns = first.0;
  loose = rows_in first.0 d.loose;
  committed = with_known (rows_in first.0 d.committed) first.1;
}

-- the law: The gathered rows are those of the entries done and not committed, in order. The committed rows are
-- the first rows, followed by those of the committed entries, in order. Each verdict and each commit keeps this
-- true.
abbrev pub GathersItsRows : Type 0
GathersItsRows = (first : Beginning) (d : Doings)
    → ((e : Entry Pairs) (v : Verdict) → kept_of first (done_too d e v) ≡ kept_too (kept_of first d) e v)
    × (kept_of first (committed_too d) ≡ committed_with (kept_of first d))
