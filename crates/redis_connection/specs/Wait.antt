-- WAIT, and the meaning of its reply.
use Rattle.std.specs.Prelude.{◌≡◌, ◌<◌, ◌≤◌, ℕ, List, [], ◌∷◌, codes, decimal, Result, Ok, Err}
use Rattle.redis_connection.specs.Ask.{Asks, HasNoAnswer}
use Rattle.redis_connection.specs.Link.{Link}
use Rattle.redis_connection.specs.declared.confirming.ConfirmError.{ConfirmError}
use Rattle.redis_connection.specs.declared.confirming.ConfirmError.TheVariants as causes
use Rattle.redis_connection.specs.declared.wait.Wait.{Wait}
use Rattle.redis_connection.specs.declared.wait.WaitError.{WaitError}
use Rattle.redis_connection.specs.declared.wait.WaitError.TheVariants.{NoReplicas, NoTime}
use Rattle.redis_resp.specs.Number.{unsigned_reading}
use Rattle.redis_resp.specs.Refusal.{RefusesNumber}

-- why a WAIT is refused: the first error that applies
abbrev pub IsNoWait : ℕ → ℕ → WaitError → Type 0
IsNoWait replicas milliseconds NoReplicas = replicas ≡ 0
IsNoWait replicas milliseconds NoTime = (0 < replicas) × (milliseconds ≡ 0)

-- a WAIT for this number of replicas and of milliseconds, or the error
abbrev pub IsMade : ℕ → ℕ → Result Wait WaitError → Type 0
IsMade replicas milliseconds (Ok w) =
    (w.replicas ≡ replicas) × (w.milliseconds ≡ milliseconds) × (0 < milliseconds)
IsMade replicas milliseconds (Err e) = IsNoWait replicas milliseconds e

-- `WAIT replicas milliseconds`
abbrev pub wait_sentence : Wait → List (List ℕ)
wait_sentence w = codes "WAIT" ∷ decimal w.replicas ∷ decimal w.milliseconds ∷ []

-- the server replied that this number of replicas have all earlier writes
abbrev pub HaveIt : Wait → Link → Link → ℕ → Type 0
HaveIt w old new n = Asks old new (wait_sentence w) (unsigned_reading 64) n

-- the required number, or more
abbrev pub IsConfirmed : Wait → Link → Link → Type 0
IsConfirmed w old new = (n : ℕ) × HaveIt w old new n × (w.replicas ≤ n)

-- the reply is an error or none was received; or only this number have the writes, which is fewer
abbrev pub IsUnconfirmed : Wait → Link → Link → ConfirmError → Type 0
IsUnconfirmed w old new (causes.Ask e) =
    HasNoAnswer old new (wait_sentence w) (unsigned_reading 64) RefusesNumber e
IsUnconfirmed w old new (causes.TooFew n) = HaveIt w old new n × (n < w.replicas)
