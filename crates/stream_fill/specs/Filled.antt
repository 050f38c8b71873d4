-- The end of a run that did not add all records.
use Rattle.std.specs.Prelude.{ℕ, ◌⊎◌, List, Option}
use Rattle.redis_connection.specs.Link.{Link}
use Rattle.redis_connection.specs.declared.wait.Wait.{Wait}
use Rattle.worker_producer.specs.Confirmed.{FinishedConfirmed}
use Rattle.worker_producer.specs.Filled.{Fails}
use Rattle.worker_producer.specs.Records.{Fields}
use Rattle.worker_producer.specs.declared.filling.FillError.{FillError}
use Rattle.worker_producer.specs.declared.settings.Settings.{Settings}

-- The session ended before all records were added. Or all records were added, but the counts could not be
-- shown, or the file has bytes after the last line end.
abbrev pub FillsNot : Option Wait → Settings → Option (List Fields) → ℕ → Link → Link → Type 0
FillsNot wait s known count old new =
    FinishedConfirmed wait s known count old new ⊎ ((e : FillError) × Fails wait s known count old new e)
