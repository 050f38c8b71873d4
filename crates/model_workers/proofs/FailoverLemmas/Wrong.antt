-- Wrong definitions, and a schedule that refutes each.
use Rattle.std.proofs.Common.{◌≡◌, refl, ap, ◌∙◌, true, ℕ, List, [], ◌∷◌, ◌++◌, Some}
use Rattle.std.proofs.Common.{codes, if◌then◌else◌}
use Rattle.model_server.specs.Failover.Law.{after}
use Rattle.model_server.specs.Failover.World.{Event, Plain, Ask_waits}
use Rattle.model_workers.specs.Files.Files.{Fields}
use Rattle.model_server.specs.Group.Group.{ids_of, listed}
use Rattle.model_server.specs.Group.Worker.{Entry, Machine, Verdict, claiming, done, left_pending, own, stop, told_in}
use Rattle.model_server.specs.Once.World.{Setting, Take}
use Rattle.worker.specs.Gathered.{Doings, done_too, committed_too}
use Rattle.worker.specs.Handling.{with_all}
use Rattle.worker.specs.Session.{Standing}
use Rattle.model_workers.specs.Failover.Keeps.{Keeps, LooksUp}
use Rattle.model_workers.specs.Failover.Rounds.{IsConsumer}

-- the producer adds one record
abbrev one : Setting Fields
one = record { records = [] ∷ []; base = 0; name = codes "ann" }

-- a request that one replica has to confirm, and this number does
abbrev ask : ℕ → Event Fields
ask said = Ask_waits 1 (λ id. true) (codes "0-0") 1 said

-- nothing is pending for the worker, and its next request, a claim, is not confirmed
abbrev claims_unconfirmed : List (Event Fields)
claims_unconfirmed = ask 1 ∷ Plain (Take []) ∷ ask 0 ∷ []

pub begun : (after one claims_unconfirmed).now.consumer.machine.phase ≡ own (codes "0")
begun = refl

-- a worker that goes on with its claim is not that consumer: it has to begin again
pub goes_on : {R : Type 0} (k : Keeps R) (v : Standing R) → v.machine.phase ≡ claiming (codes "0-0")
    → IsConsumer k v (after one claims_unconfirmed).now.consumer → ⊥
goes_on k v claims i = absurd (other (ap (λ (m : Machine). m.phase) i.machine ∙ claims))
  where
    other : own (codes "0") ≡ claiming (codes "0-0") → ⊥
    other e = cc e

-- a handler that does not check its file
abbrev never_looks : Keeps Doings
never_looks = record {
  with_verdict = done_too;
  with_commit = committed_too;
  written = λ lines file. record { loose = lines; committed = file };
}

abbrev entry : Entry Fields
entry = (codes "1-0", [])

-- an entry of its file that is redelivered gets a second line
pub line_twice : with_all done_too (never_looks.written [] (entry ∷ [])) (told_in ((codes "1-0", Some []) ∷ []) (done ∷ []))
    ≡ never_looks.written (entry ∷ []) (entry ∷ [])
line_twice = refl

pub it_has_to_look : LooksUp never_looks → ⊥
it_has_to_look law = absurd (other (ap (λ (d : Doings). d.loose)
    (law.reply [] (entry ∷ []) ((codes "1-0", Some []) ∷ []) (done ∷ []))))
  where
    other : entry ∷ [] ≡ [] → ⊥
    other e = cc e

-- a handler that checks only what is committed
abbrev looks_in_its_file : Doings → Entry Fields → Verdict → Doings
looks_in_its_file d e done = if listed (ids_of d.committed) e.0 then d else record d { loose = d.loose ++ e ∷ [] }
looks_in_its_file d e left_pending = d
looks_in_its_file d e stop = d

-- an entry that is gathered gets a second line
pub it_has_to_look_at_all : LooksUp (record never_looks { with_verdict = looks_in_its_file }) → ⊥
it_has_to_look_at_all law = absurd (other (ap (λ (d : Doings). d.loose)
    (law.reply (entry ∷ []) [] ((codes "1-0", Some []) ∷ []) (done ∷ []))))
  where
    other : entry ∷ entry ∷ [] ≡ entry ∷ [] → ⊥
    other e = cc e
