-- Two consumers and a failover: with WAIT each premise is met, and without it an entry is in both files.
use Rattle.std.proofs.Common.{◌≡◌, refl, ℕ, true, false, List, [], ◌∷◌, ◌++◌, map, codes}
use Rattle.std.specs.Fmt.{digits}
use Rattle.model_server.specs.Group.Worker.{Id, done}
use Rattle.model_server.specs.Group.Group.{Name, ids_of, id_text, pending_ids}
use Rattle.model_server.specs.Once.World.{Setting, Send, Arrive, Hear, Ask, Take, Sync, Acknowledge_now}
use Rattle.model_server.specs.Failover.World.{Event, Plain, Arrive_waits, Ask_waits, Failover}
use Rattle.model_server.specs.Failover.Law.{AllWait}
use Rattle.model_server.specs.Failover.Many.{Many, first_many, run_many, AllFair}

abbrev one : Setting ℕ
one = record { records = 7 ∷ []; base = 0; name = codes "ann" }

-- each of the events with this consumer
abbrev by : Name → List (Event ℕ) → List (Name × Event ℕ)
by name events = map (λ e. let p : Name × Event ℕ = (name, e) in p) events

abbrev files_and_pending : Many ℕ → List Id × List Id × List Id
files_and_pending m = (
  ids_of (m.now.consumers (codes "ann")).file,
  ids_of (m.now.consumers (codes "bob")).file,
  pending_ids m.now.stream.pending,
)

abbrev first_one : List Id
first_one = map id_text ((1, 0) ∷ [])

abbrev settled : List (Event ℕ) → List (Event ℕ)
settled more = Plain (Take (done ∷ [])) ∷ Plain Sync ∷ Plain Acknowledge_now ∷ Plain (Take []) ∷ more

-- a consumer finds nothing of its own, claims nothing, and does each new entry that it gets
abbrev loose_ask : Event ℕ
loose_ask = Plain (Ask 4 (λ id. false) (codes "0-0"))

abbrev loose_reading : List (Event ℕ)
loose_reading = loose_ask ∷ Plain (Take []) ∷ loose_ask ∷ Plain (Take []) ∷ loose_ask ∷ settled []

-- ann does so and acknowledges, the master fails, and bob does the same; none of them sends WAIT
abbrev loose : List (Name × Event ℕ)
loose =
    by (codes "ann") (
    Plain (Send 0) ∷ Plain (Arrive true) ∷ Plain Hear ∷ Plain (Send 1) ∷ Plain (Arrive true) ∷ Plain Hear ∷ loose_reading
    )
    ++ (by (codes "ann") (Failover 5 ∷ []) ++ by (codes "bob") loose_reading)

pub loose_is_fair : AllFair one first_many loose
unfolding digits
loose_is_fair =
    (tt, (tt, (tt, (tt, (tt, (tt, (tt, (tt, (λ id p h. absurd h, (tt, (tt, (tt, (tt, (tt, (tt, (tt, (tt, (tt, (λ id p h. absurd h, (tt, (tt, (tt, (tt, (tt, (tt, tt)))))))))))))))))))))))))

pub in_both_files : files_and_pending (run_many one loose first_many) ≡ (first_one, first_one, [])
unfolding digits
in_both_files = refl

-- both send WAIT. The failover undoes ann's acknowledgement: bob gets nothing, and ann has the entry again
abbrev ask : Event ℕ
ask = Ask_waits 4 (λ id. false) (codes "0-0") 1 1

abbrev again : Event ℕ
again = Ask_waits 4 (λ id. true) (codes "0-0") 1 1

abbrev beginning : List (Event ℕ) → List (Event ℕ)
beginning more = ask ∷ Plain (Take []) ∷ ask ∷ Plain (Take []) ∷ ask ∷ more

abbrev waiting : List (Name × Event ℕ)
waiting =
    by (codes "ann") (
    Plain (Send 0) ∷ Arrive_waits true 1 1 ∷ Plain Hear ∷ Plain (Send 1) ∷ Arrive_waits true 1 1 ∷ Plain Hear ∷
    beginning (settled (Failover 2 ∷ []))
    )
    ++ (by (codes "bob") (beginning (Plain (Take []) ∷ [])) ++ by (codes "ann") (again ∷ settled []))

pub all_wait : AllWait (map (λ (e : Name × Event ℕ). e.1) waiting)
all_wait =
    (tt, (tt, (tt, (tt, (tt, (tt, (tt, (tt, (tt, (tt, (tt, (tt, (tt, (tt, (tt, (tt, (tt, (tt, (tt, (tt, (tt, (tt, (tt, (tt, (tt, (tt, (tt, tt)))))))))))))))))))))))))))

pub waiting_is_fair : AllFair one first_many waiting
unfolding digits
waiting_is_fair =
    (tt, (tt, (tt, (tt, (tt, (tt, (tt, (tt, (λ id p h. absurd h, (tt, (tt, (tt, (tt, (tt, (tt, (tt, (tt, (tt, (λ id p h other k. absurd (let t : false ≡ true = p in cc), (tt, (tt, (tt, (tt, (tt, (tt, (tt, (tt, tt)))))))))))))))))))))))))))

pub in_one_file : files_and_pending (run_many one waiting first_many) ≡ (first_one, [], [])
unfolding digits
in_one_file = refl
