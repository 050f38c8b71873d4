-- The state of a worker after a request that failed.
use Rattle.std.specs.Prelude.{◌≡◌, true}
use Rattle.model_server.specs.Group.Worker.{Machine}
use Rattle.worker.specs.Machine.{commits, at_request, history_at_request}
use Rattle.worker.specs.declared.error.RequestError.{RequestError}
use Rattle.worker.specs.declared.error.RequestError.TheVariants.{NotCommitted, TooLong, Memory}

-- the state after a request that failed. If the handler did not commit, nothing changed. Otherwise the command
-- was not written, and the handler has committed if there was something to commit
abbrev pub Unasked : {R : Type 0} → (R → R) → Machine → Machine → R → R → RequestError → Type 0
Unasked with_commit m n r s NotCommitted = (commits m ≡ true) × (n ≡ m) × (s ≡ r)
Unasked with_commit m n r s TooLong = (n ≡ at_request m) × (s ≡ history_at_request with_commit m r)
Unasked with_commit m n r s Memory = (n ≡ at_request m) × (s ≡ history_at_request with_commit m r)

-- `p` holds if the error is that the handler did not commit
abbrev pub OnNotCommitted : RequestError → Type 0 → Type 0
OnNotCommitted NotCommitted p = p
OnNotCommitted TooLong p = Unit {0}
OnNotCommitted Memory p = Unit {0}
