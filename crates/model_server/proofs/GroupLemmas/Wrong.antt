-- A schedule that refutes the wrong definition of planted/: a worker that begins to acknowledge what is not committed
-- loses an entry.
use Rattle.std.proofs.Common.{◌≡◌, refl, ℕ, Bool, false, true, List, [], ◌∷◌, codes}
use Rattle.std.specs.Fmt.{digits}
use Rattle.model_server.specs.Group.Worker.{Entry, done, begins_with}
use Rattle.model_server.specs.Group.Group.{Name, Pending}
use Rattle.model_server.specs.Group.World.{World, Event, Append, Read, Comes, Acknowledge, Ack_comes, Crash, empty_world}
use Rattle.model_server.specs.Group.World.{with_one, crashes, happens}

abbrev ann : Name
ann = codes "ann"

-- the fields of the entry do not matter
abbrev F : Type 0
F = ℕ

abbrev entry : Entry F
entry = (codes "1-0", 7)

-- a schedule, if an event makes this of the world
abbrev run_by : (World F → Event F → World F) → List (Event F) → World F → World F
run_by next [] w = w
run_by next (e ∷ es) w = run_by next es (next w e)

-- the entry is added, read and done; then the worker crashes, begins with its id, and acknowledges it
abbrev crashed : (Entry F → Bool) → List (Event F)
crashed keeps =
    Append (1, 0) 7 ∷ Read ann 1 ∷ Comes 0 (done ∷ []) ∷ Crash ann 1 keeps (codes "1-0" ∷ []) ∷ Acknowledge ann ∷
    Ack_comes 0 ∷ []

abbrev after_by : (World F → Event F → World F) → (Entry F → Bool) → World F
after_by next keeps = run_by next (crashed keeps) empty_world

abbrev by_the_right : World F → Event F → World F
by_the_right = happens

-- nothing of it was committed: it is pending
pub not_acknowledged : (after_by by_the_right (λ e. false)).acknowledged_ids ≡ []
unfolding digits
not_acknowledged = refl

pub still_pending : (after_by by_the_right (λ e. false)).pending
    ≡ (let p : Pending = record { id = codes "1-0"; consumer = ann; count = 1 } in p) ∷ []
unfolding digits
still_pending = refl

-- the crash interrupted a commit that was in the file: it is acknowledged, and is not redelivered
pub kept_and_acknowledged : (after_by by_the_right (λ e. true)).acknowledged_ids ≡ codes "1-0" ∷ []
unfolding digits
kept_and_acknowledged = refl

pub kept_and_committed : (after_by by_the_right (λ e. true)).committed ≡ entry ∷ []
unfolding digits
kept_and_committed = refl

-- a worker acknowledges ids that are not committed
abbrev begins_with_any : World F → Event F → World F
begins_with_any w (Crash c every keeps ids) =
    record (crashes w c every keeps ids) { workers = with_one w.workers c (begins_with every ids) }
begins_with_any w e = happens w e

pub acknowledged_all_the_same : (after_by begins_with_any (λ e. false)).acknowledged_ids ≡ codes "1-0" ∷ []
unfolding digits
acknowledged_all_the_same = refl

-- it is neither undelivered nor pending, and neither committed nor deleted
pub gone : (after_by begins_with_any (λ e. false)).pending ≡ []
unfolding digits
gone = refl

pub not_committed : (after_by begins_with_any (λ e. false)).committed ≡ []
unfolding digits
not_committed = refl

pub not_to_come : (after_by begins_with_any (λ e. false)).fresh ≡ []
unfolding digits
not_to_come = refl

pub not_deleted : (after_by begins_with_any (λ e. false)).deleted ≡ []
unfolding digits
not_deleted = refl
