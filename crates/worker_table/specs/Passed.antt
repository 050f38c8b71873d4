-- Each acknowledged id has a row, and its entry was or will be forwarded.
use Rattle.std.specs.Prelude.{◌≡◌, ◌⊎◌, List, Some}
use Rattle.worker_table.specs.declared.row_table.cell.Column.{Column}
use Rattle.worker_table.specs.RowTable.Posts.{Stored}
use Rattle.worker_table.specs.RowTable.Rows.{Key, Row}
use Rattle.worker_table.specs.RowTable.Sent.{Goes, HasKey, HasPost}
use Rattle.model_server.specs.Group.Law.{Among}
use Rattle.model_server.specs.Group.Worker.{Id}
use Rattle.worker.specs.Session.{Standing}
use Rattle.worker.specs.declared.state.Settings.{Settings}
use Rattle.worker_table.specs.Acknowledged.{IsThere, Reaches}
use Rattle.worker_table.specs.Kept.{Kept, key_in}

-- the law: Let a worker that forwards be in the state after a schedule. Let its table have the contents after a
-- schedule of transactions and replies. Then each acknowledged id has a row that was passed on, or the server
-- reported that its entry was deleted. A row is passed on if it existed at first, or if its post is in the
-- outbox or got a reply.
abbrev pub AcknowledgedIsPassedOn : Type 0
AcknowledgedIsPassedOn = (settings : Settings) (columns : List Column) (gone : List Id) (began : List Row)
    (w : Standing Kept) (deleted acknowledged : List Id) (first s : Stored) (done : List Key)
    → Reaches settings columns gone began w deleted acknowledged → Goes first s done
    → w.history.committed ≡ Some s.rows → (id : Id) → Among id acknowledged
    → (IsThere s.rows id × (IsThere first.rows id ⊎ (HasPost (key_in id) s.posts ⊎ HasKey (key_in id) done))) ⊎ Among id gone
