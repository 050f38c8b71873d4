-- Each acknowledged id is a row, over every schedule of rounds, crashes and restarts.
use Rattle.std.specs.Prelude.{◌≡◌, ◌⊎◌, List, [], ◌++◌, Some, IsSome}
use Rattle.redis_connection.specs.Link.{Link}
use Rattle.worker_table.specs.declared.row_table.cell.Column.{Column}
use Rattle.worker_table.specs.RowTable.Rows.{BeginsWith, KeysApart, Row, find}
use Rattle.model_server.specs.Group.Law.{Among}
use Rattle.model_server.specs.Group.Worker.{Id}
use Rattle.worker.specs.Session.{Standing, Turned, Fails, asking}
use Rattle.worker.specs.declared.error.RunError.{RunError}
use Rattle.worker.specs.declared.error.RunError.TheVariants as causes
use Rattle.worker.specs.declared.state.Asked.{Asked}
use Rattle.worker.specs.declared.state.Settings.{Settings}
use Rattle.worker.specs.declared.worker.Progress.{Progress}
use Rattle.worker_table.specs.Kept.{Kept, committed_with, key_in, kept_too}
use Rattle.worker_table.specs.Lived.{LivesSo, newborn_with}

-- there is a row with this id
abbrev pub IsThere : List Row → Id → Type 0
IsThere rows id = IsSome (find (key_in id) rows)

-- the ids that a worker acknowledges next
abbrev pub acknowledges : Settings → Standing Kept → List Id
acknowledges settings w = (asking committed_with settings w).machine.to_acknowledge

-- the ids that a failed round may have acknowledged. They are none if the command was not sent.
abbrev pub asked_before : RunError → List Id → List Id
asked_before (causes.Request e) ids = []
asked_before e ids = ids

module _ (settings : Settings) (columns : List Column) (gone : List Id) where
  -- The states of a worker over a table that had the rows `first` at the start. The last list contains the ids
  -- that this worker and the workers before it acknowledged.
  -- A worker is new at first. In each round it receives a reply, or the round fails. It may crash at any time.
  -- A crash leaves the committed rows, and perhaps more rows after them, with distinct keys. Then another
  -- worker starts over the table, and knows nothing else. The entries that the server reports as deleted are in
  -- `gone`.
  pub data Reaches : List Row → Standing Kept → List Id → List Id → Type 0 where
    begins : (first : List Row) → KeysApart first → Reaches first (newborn_with settings (columns, Some first)) [] []
    turns : (first : List Row) (w x : Standing Kept) (deleted more acknowledged : List Id) (old new : Link) (q : Asked)
        (p : Progress) → Reaches first w deleted acknowledged
        → Turned kept_too committed_with settings old new w x q p
        → LivesSo settings (columns, Some first) x (deleted ++ more) → ((id : Id) → Among id (deleted ++ more) → Among id gone)
        → Reaches first x (deleted ++ more) (acknowledged ++ acknowledges settings w)
    fails : (first : List Row) (w x : Standing Kept) (deleted more acknowledged : List Id) (old new : Link) (e : RunError)
        → Reaches first w deleted acknowledged → Fails kept_too committed_with settings old new w x e
        → LivesSo settings (columns, Some first) x (deleted ++ more) → ((id : Id) → Among id (deleted ++ more) → Among id gone)
        → Reaches first x (deleted ++ more) (acknowledged ++ asked_before e (acknowledges settings w))
    crashes : (first : List Row) (w : Standing Kept) (deleted acknowledged : List Id) (rows left : List Row)
        → Reaches first w deleted acknowledged → w.history.committed ≡ Some rows → BeginsWith rows left
        → KeysApart left → Reaches left (newborn_with settings (columns, Some left)) [] acknowledged

  -- no committed rows have the same key, and each acknowledged id has a row or is in `gone`
  pub record AreSettled (w : Standing Kept) (acknowledged : List Id) : Type 0 where
    pub rows : List Row
    pub committed : w.history.committed ≡ Some rows
    pub apart : KeysApart rows
    pub there : (id : Id) → Among id acknowledged → IsThere rows id ⊎ Among id gone

-- the law: every worker that `Reaches` describes satisfies `AreSettled`
abbrev pub AcknowledgedIsARow : Type 0
AcknowledgedIsARow = (settings : Settings) (columns : List Column) (gone : List Id) (first : List Row) (w : Standing Kept)
    (deleted acknowledged : List Id) → Reaches settings columns gone first w deleted acknowledged
    → AreSettled settings columns gone w acknowledged
