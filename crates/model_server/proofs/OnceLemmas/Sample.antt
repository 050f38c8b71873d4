-- A schedule that meets each premise: a batch that arrives late, a crash within a commit, and one after a commit.
use Rattle.std.proofs.Common.{◌≡◌, refl, ℕ, arith, true, List, [], ◌∷◌, codes}
use Rattle.std.specs.Fmt.{digits}
use Rattle.model_server.specs.Group.Worker.{done, stop}
use Rattle.model_server.specs.Group.Group.{id_text}
use Rattle.model_server.specs.Group.World.{Append}
use Rattle.model_server.specs.Once.Feed.{knows, entries}
use Rattle.model_server.specs.Once.World.{Setting, first_world, Event, Send, Arrive, Arrive_late, Hear, Break}
use Rattle.model_server.specs.Once.World.{Ask, Take, Sync, Acknowledge_now, Restart, Else}
use Rattle.model_server.specs.Once.Order.{AllInOrder}
use Rattle.model_server.specs.Once.Law.{Fit, after, IsDrained}

abbrev two : Setting ℕ
two = record { records = 7 ∷ 8 ∷ []; base = 3; name = codes "me" }

abbrev ask : Event ℕ
ask = Ask 4 (λ id. true) (codes "0-0")

-- the producer sends the first record, its connection breaks, it starts over and sends both; the old batch is first
abbrev filling : List (Event ℕ) → List (Event ℕ)
filling more =
    Send 0 ∷ Arrive true ∷ Hear ∷ Send 1 ∷ Break ∷ Send 0 ∷ Arrive true ∷ Hear ∷ Send 2 ∷ Arrive_late 0 true ∷ Arrive true ∷ Hear ∷ more

-- the consumer finds nothing of its own, claims nothing, gets both, does one and stops; it crashes in the commit,
-- and the line is in the file all the same
abbrev reading_one : List (Event ℕ) → List (Event ℕ)
reading_one more =
    ask ∷ Take [] ∷ ask ∷ Take [] ∷ ask ∷ Take (done ∷ stop ∷ []) ∷ Restart 1 1 0 ∷ more

-- it acknowledges that line, gets the other entry again, does it, crashes after the sync, and acknowledges it
abbrev reading_other : List (Event ℕ)
reading_other =
    Acknowledge_now ∷ Take [] ∷ ask ∷ Take (done ∷ []) ∷ Sync ∷ Restart 1 0 0 ∷ Acknowledge_now ∷
    Take [] ∷ []

abbrev schedule : List (Event ℕ)
schedule = filling (reading_one reading_other)

pub it_fits : Fit two
it_fits = omega arith

pub in_order : AllInOrder two first_world schedule
unfolding digits
in_order =
    (tt, (tt, (tt, (tt, (tt, (tt, (tt, (tt, (tt, (tt, (tt, (tt, (refl, (tt, (tt, (tt, (tt, (tt, (tt, (tt, (tt, (refl, (tt, (tt, (tt, (tt, (tt, tt)))))))))))))))))))))))))))

pub all_in : (after two schedule).producer.stage ≡ knows 2
all_in = refl

pub drained : IsDrained (after two schedule)
unfolding digits
drained = (refl, refl)

pub came_out : (after two schedule).consumer.file ≡ entries 3 (7 ∷ 8 ∷ [])
unfolding digits
came_out = refl

-- others add two entries, and a third with an id that is not above the last one. The consumer is given the two
abbrev by_others : List (Event ℕ)
by_others =
    Else (Append (5, 1) 7) ∷ Else (Append (5, 2) 8) ∷ Else (Append (5, 2) 9) ∷ ask ∷ Take [] ∷ ask ∷ Take [] ∷ ask ∷
    Take (done ∷ done ∷ []) ∷ Sync ∷ []

pub others_came_out : (after two by_others).consumer.file ≡ (id_text (5, 1), 7) ∷ (id_text (5, 2), 8) ∷ []
unfolding digits
others_came_out = refl
