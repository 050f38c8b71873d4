-- The end of a session that did not add all records.
use Rattle.std.specs.Prelude.{ℕ, ◌-◌, ◌^◌, List, Option}
use Rattle.redis_connection.specs.Link.{Link}
use Rattle.redis_connection.specs.declared.wait.Wait.{Wait}
use Rattle.worker_producer.specs.Confirmed.{BrokeConfirmed, ConfirmedRounds}
use Rattle.worker_producer.specs.Machine.{Standing, idle}
use Rattle.worker_producer.specs.Records.{Fields}
use Rattle.worker_producer.specs.declared.filling.FillError.{FillError}
use Rattle.worker_producer.specs.declared.filling.FillError.TheVariants as causes
use Rattle.worker_producer.specs.declared.settings.Settings.{Settings}

-- a round broke off or was not confirmed, with this error; or the number of rounds is at its maximum
abbrev pub Fails : Option Wait → Settings → Option (List Fields) → ℕ → Link → Link → FillError → Type 0
Fails wait s known count old new (causes.Round e) = BrokeConfirmed wait s known count old new e
Fails wait s known count old new causes.NoTurnLeft =
    (x : Standing) × ConfirmedRounds wait s known count (2 ^ 64 - 1) old new idle x
