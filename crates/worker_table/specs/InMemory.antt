-- Handlers whose table is known follow the schedules of acknowledged rows, from the start of a worker and after
-- a crash.
use Rattle.std.specs.Prelude.{◌≡◌, ◌⊎◌, List, [], Some, IfSome, IsSome}
use Rattle.worker_table.specs.declared.row_table.cell.Column.{Column}
use Rattle.worker_table.specs.RowTable.Rows.{KeysApart, Row}
use Rattle.model_server.specs.Group.Law.{Among}
use Rattle.model_server.specs.Group.Worker.{Id}
use Rattle.worker.specs.Session.{Standing}
use Rattle.worker.specs.declared.state.Settings.{Settings}
use Rattle.worker_table.specs.Acknowledged.{IsThere, Reaches}
use Rattle.worker_table.specs.Kept.{Kept}
use Rattle.worker_table.specs.Lived.{newborn_with}

module _ {H : Type 0} (history : H → Kept) (may_leave : H → List Row → Type 0) where
  -- a worker with such a handler after a schedule, and the rows that a crash leaves at this point
  pub record Crashed (settings : Settings) (columns : List Column) (gone acknowledged : List Id) (left : List Row) : Type 0 where
    pub first : List Row
    pub worker : Standing Kept
    pub deleted : List Id
    pub reached : Reaches settings columns gone first worker deleted acknowledged
    pub handler : H
    pub keeps : worker.history ≡ history handler
    pub leaves : may_leave handler left

  -- the law: The committed rows are known, and a crash may leave them. A new worker is at the start of a
  -- schedule, if all keys are distinct. After a crash another worker continues the schedule with the rows that
  -- are left. Each acknowledged id has one of these rows or is in `gone`.
  pub record GoesThroughSchedules : Type 0 where
    pub known : (h : H) → IsSome (history h).committed
    pub may_stay : (h : H) → IfSome (history h).committed (may_leave h)
    pub starts : (settings : Settings) (gone : List Id) (h : H) (rows : List Row) → (history h).loose ≡ []
        → (history h).committed ≡ Some rows → KeysApart rows
        → ((newborn_with settings ((history h).columns, Some rows)).history ≡ history h)
        × Reaches settings (history h).columns gone rows (newborn_with settings ((history h).columns, Some rows)) [] []
    pub goes_on : (settings : Settings) (columns : List Column) (gone acknowledged : List Id) (left : List Row)
        → Crashed settings columns gone acknowledged left
        → Reaches settings columns gone left (newborn_with settings (columns, Some left)) [] acknowledged
        × ((id : Id) → Among id acknowledged → IsThere left id ⊎ Among id gone)
