-- A schedule of two consumers that meets each premise: each has one of the records in its file at the end.
use Rattle.std.proofs.Common.{◌≡◌, refl, ℕ, arith, true, List, [], ◌∷◌, map, codes}
use Rattle.std.specs.Fmt.{digits}
use Rattle.model_server.specs.Group.Worker.{done}
use Rattle.model_server.specs.Group.Group.{Name, ids_of, id_text}
use Rattle.model_server.specs.Once.World.{Setting, Event, Send, Arrive, Hear, Ask, Take, Sync, Restart, Acknowledge_now}
use Rattle.model_server.specs.Once.Law.{Fit, NoOtherAcks, IsDone, IsDrained}
use Rattle.model_server.specs.Once.Many.{first_many, world_of, run_many, AllFair, file_after}

abbrev ann : Name
ann = codes "ann"

abbrev bob : Name
bob = codes "bob"

abbrev two : Setting ℕ
two = record { records = 7 ∷ 8 ∷ []; base = 3; name = ann }

abbrev ask : Event ℕ
ask = Ask 1 (λ id. true) (codes "0-0")

-- the producer adds both records; ann and bob find nothing of their own and nothing to claim
abbrev beginning : List (Name × Event ℕ) → List (Name × Event ℕ)
beginning more =
    (ann, Send 0) ∷ (ann, Arrive true) ∷ (ann, Hear) ∷ (ann, Send 2) ∷ (ann, Arrive true) ∷ (ann, Hear) ∷
    (ann, ask) ∷ (ann, Take []) ∷ (ann, ask) ∷ (ann, Take []) ∷ (bob, ask) ∷ (bob, Take []) ∷ (bob, ask) ∷
    (bob, Take []) ∷ more

-- each reads one entry and commits it; ann crashes after its commit; both acknowledge
abbrev schedule : List (Name × Event ℕ)
schedule = beginning (
    (ann, ask) ∷ (bob, ask) ∷ (bob, Take (done ∷ [])) ∷ (ann, Take (done ∷ [])) ∷ (ann, Sync) ∷ (bob, Sync) ∷
    (ann, Restart 1 0 0) ∷ (ann, Acknowledge_now) ∷ (bob, Acknowledge_now) ∷ [])

pub it_fits : Fit two
it_fits = omega arith

pub no_other_acks : NoOtherAcks (map (λ (e : Name × Event ℕ). e.1) schedule)
no_other_acks =
    (tt, (tt, (tt, (tt, (tt, (tt, (tt, (tt, (tt, (tt, (tt, (tt, (tt, (tt, (tt, (tt, (tt, (tt, (tt, (tt, (tt, (tt, (tt, tt)))))))))))))))))))))))

pub all_fair : AllFair two first_many schedule
unfolding digits
all_fair =
    (tt, (tt, (tt, (tt, (tt, (tt, (tt, (tt, (λ id k h. absurd h, (tt, (tt, (tt, (λ id k h. absurd h, (tt, (tt, (tt, (tt, (tt, (tt, (tt, (tt, (tt, (tt, tt)))))))))))))))))))))))

pub all_in : IsDone two (world_of (run_many two schedule first_many) ann)
unfolding digits
all_in = refl

pub drained : IsDrained (world_of (run_many two schedule first_many) ann)
unfolding digits
drained = (refl, refl)

pub one_each : (ids_of (file_after two schedule ann) ≡ id_text (4, 0) ∷ []) × (ids_of (file_after two schedule bob) ≡ id_text (5, 0) ∷ [])
unfolding digits
one_each = (refl, refl)
