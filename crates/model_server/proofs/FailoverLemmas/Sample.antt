-- A schedule that meets each premise: a batch that is not confirmed and is gone after a failover, and another failover
-- that undoes an acknowledgement.
use Rattle.std.proofs.Common.{◌≡◌, refl, ℕ, arith, true, List, [], ◌∷◌, codes}
use Rattle.std.specs.Fmt.{digits}
use Rattle.model_server.specs.Group.Worker.{done}
use Rattle.model_server.specs.Once.Feed.{entries}
use Rattle.model_server.specs.Once.World.{Setting, Send, Hear, Take, Sync, Acknowledge_now}
use Rattle.model_server.specs.Once.Law.{Fit, IsDone, IsDrained, log}
use Rattle.model_server.specs.Failover.World.{World, Event, Plain, Arrive_waits, Ask_waits, Failover, run}
use Rattle.model_server.specs.Failover.Law.{after, AllWait, NoOtherAdds, NoOtherAcks}

abbrev two : Setting ℕ
two = record { records = 7 ∷ 8 ∷ []; base = 3; name = codes "me" }

-- the producer requests the last id; one replica has to confirm, and does
abbrev asking : List (Event ℕ) → List (Event ℕ)
asking more = Plain (Send 0) ∷ Arrive_waits true 1 1 ∷ Plain Hear ∷ more

-- it sends both records. They are added, no replica confirms, and the master fails
abbrev lost_batch : List (Event ℕ) → List (Event ℕ)
lost_batch more = asking (Plain (Send 2) ∷ Arrive_waits true 1 0 ∷ Failover 1 ∷ more)

-- it requests that again, sends them again, and they are confirmed
abbrev filling : List (Event ℕ)
filling = lost_batch (asking (Plain (Send 2) ∷ Arrive_waits true 1 1 ∷ Plain Hear ∷ []))

abbrev ask : Event ℕ
ask = Ask_waits 4 (λ id. true) (codes "0-0") 1 1

abbrev commit_and_acknowledge : List (Event ℕ) → List (Event ℕ)
commit_and_acknowledge more = Plain Sync ∷ Plain Acknowledge_now ∷ Plain (Take []) ∷ more

-- the consumer finds nothing of its own, claims nothing, gets both, does them and acknowledges. The master fails,
-- both are pending again, and are redelivered; it finds them in its file, and acknowledges again
abbrev draining : List (Event ℕ)
draining =
    ask ∷ Plain (Take []) ∷ ask ∷ Plain (Take []) ∷ ask ∷ Plain (Take (done ∷ done ∷ [])) ∷
    commit_and_acknowledge (
    Failover 2 ∷ ask ∷ Plain (Take (done ∷ done ∷ [])) ∷ commit_and_acknowledge []
    )

pub it_fits : Fit two
it_fits = omega arith

pub filling_waits : AllWait filling
filling_waits = (tt, (tt, (tt, (tt, (tt, (tt, (tt, (tt, (tt, (tt, (tt, (tt, tt))))))))))))

pub draining_waits : AllWait draining
draining_waits = (tt, (tt, (tt, (tt, (tt, (tt, (tt, (tt, (tt, (tt, (tt, (tt, (tt, (tt, (tt, tt)))))))))))))))

pub filling_adds_alone : NoOtherAdds filling
filling_adds_alone = (tt, (tt, (tt, (tt, (tt, (tt, (tt, (tt, (tt, (tt, (tt, (tt, tt))))))))))))

pub draining_adds_nothing : NoOtherAdds draining
draining_adds_nothing = (tt, (tt, (tt, (tt, (tt, (tt, (tt, (tt, (tt, (tt, (tt, (tt, (tt, (tt, (tt, tt)))))))))))))))

pub filling_acknowledges_alone : NoOtherAcks filling
filling_acknowledges_alone = (tt, (tt, (tt, (tt, (tt, (tt, (tt, (tt, (tt, (tt, (tt, (tt, tt))))))))))))

pub draining_acknowledges_alone : NoOtherAcks draining
draining_acknowledges_alone =
    (tt, (tt, (tt, (tt, (tt, (tt, (tt, (tt, (tt, (tt, (tt, (tt, (tt, (tt, (tt, tt)))))))))))))))

-- the first batch was in the log, and is gone
pub batch_was_lost : log (after two (lost_batch [])).now ≡ []
batch_was_lost = refl

pub all_in : IsDone two (after two filling).now
unfolding digits
all_in = refl

abbrev drained_world : World ℕ
drained_world = run two draining (after two filling)

pub drained : IsDrained drained_world.now
unfolding digits
drained = (refl, refl)

pub nothing_deleted : drained_world.now.stream.deleted ≡ []
unfolding digits
nothing_deleted = refl

pub came_out : drained_world.now.consumer.file ≡ entries 3 (7 ∷ 8 ∷ [])
unfolding digits
came_out = refl
