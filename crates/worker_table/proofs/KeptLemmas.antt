-- The rows of doings.
use Rattle.std.proofs.Common.{◌≡◌, ◌∙◌, refl, ap, List, [], ◌∷◌, ◌++◌, Option, Some, None}
use Rattle.worker_table.specs.declared.row_table.cell.Column.{Column}
use Rattle.worker_table.specs.RowTable.Rows.{Row, with_known, with_rows}
use Rattle.worker_table.proofs.RowTableLemmas.RowsLemmas.{law}
use Rattle.model_server.specs.Group.Worker.{Entry, Verdict, done, left_pending, stop}
use Rattle.stream_in_place.specs.Sent.{Pairs}
use Rattle.worker.specs.Gathered.{Doings, committed_too, done_too}
use Rattle.worker_table.specs.Kept.{Beginning, GathersItsRows, Kept, committed_with, kept_of, kept_too, row_in, rows_in}

-- the rows of entries and of more
rows_both : (columns : List Column) (es more : List (Entry Pairs))
    → rows_in columns (es ++ more) ≡ rows_in columns es ++ rows_in columns more
rows_both columns [] more = refl
rows_both columns (d ∷ es) more = ap (λ (rs : List Row). row_in columns d ∷ rs) (rows_both columns es more)

-- so much is gathered and committed
abbrev gathered : List Column → Option (List Row) → List Row → Kept
gathered columns c rs = record { columns = columns; loose = rs; committed = c }

pub each_verdict : (first : Beginning) (d : Doings) (e : Entry Pairs) (v : Verdict)
    → kept_of first (done_too d e v) ≡ kept_too (kept_of first d) e v
each_verdict first d e done = ap (gathered first.0 (with_known (rows_in first.0 d.committed) first.1))
    (rows_both first.0 d.loose (e ∷ []))
each_verdict first d e left_pending = refl
each_verdict first d e stop = refl

-- more rows, and then more
with_both : (columns : List Column) (es more : List (Entry Pairs)) (first : Option (List Row))
    → with_known (rows_in columns (es ++ more)) first
    ≡ with_known (rows_in columns more) (with_known (rows_in columns es) first)
with_both columns es more None = refl
with_both columns es more (Some rows) =
    ap Some (ap (with_rows rows) (rows_both columns es more)
    ∙ law.in_turn rows (rows_in columns es) (rows_in columns more))

pub each_commit : (first : Beginning) (d : Doings)
    → kept_of first (committed_too d) ≡ committed_with (kept_of first d)
each_commit first d = ap (λ (c : Option (List Row)). gathered first.0 c [])
    (with_both first.0 d.committed d.loose first.1)

-- nothing more
pub with_none : (first : Option (List Row)) → with_known [] first ≡ first
with_none None = refl
with_none (Some rows) = refl

pub gathers : GathersItsRows
gathers first d = (each_verdict first d, each_commit first d)

-- after a commit
pub committed_now : (columns : List Column) (old new : List Row) (before after : Option (List Row)) → new ≡ [] → after ≡ with_known old before
    → gathered columns after new ≡ committed_with (gathered columns before old)
committed_now columns old new before after none more =
    ap (gathered columns after) none ∙ ap (λ (c : Option (List Row)). gathered columns c []) more
