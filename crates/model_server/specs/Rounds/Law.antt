-- Enough rounds of a worker drain the stream if nothing fails.
use Rattle.std.specs.Prelude.{◌≡◌, ◌⊎◌, ℕ, ◌≤◌, List, [], ◌++◌, length, codes}
use Rattle.model_server.specs.Group.Worker.{Id, Entry}
use Rattle.model_server.specs.Group.Worker as worker
use Rattle.model_server.specs.Group.Group.{Name, own}
use Rattle.model_server.specs.Group.World.{World, Event, run, empty_world}
use Rattle.model_server.specs.Group.Law.{Among}
use Rattle.model_server.specs.Rounds.Rounds.{rounds, events_of_rounds}
use Rattle.model_server.specs.Rounds.Bound.{enough_rounds, again_rounds, mine_in, pending_in}

-- no entry is pending, and none is undelivered
abbrev pub IsDrained : {F : Type 0} → World F → Type 0
IsDrained w = (w.pending ≡ []) × (w.fresh ≡ [])

-- the stream is drained (`IsDrained`) after `enough_rounds` or more rounds of one worker, whatever happened before.
-- COUNT is at least 1
abbrev pub AllIsDrained : Type 0 → Type 0
AllIsDrained F = (events : List (Event F)) (name : Name) (n : ℕ) → 1 ≤ n → (so_many : ℕ)
    → enough_rounds n name (run events empty_world) ≤ so_many
    → IsDrained (rounds so_many n name (run events empty_world))

-- rounds are the events `events_of_rounds`, so each law over all schedules holds for them
abbrev pub RoundsAreASchedule : Type 0 → Type 0
RoundsAreASchedule F = (so_many n : ℕ) (name : Name) (w : World F)
    → rounds so_many n name w ≡ run (events_of_rounds so_many n name w) w

-- the worker has this id to acknowledge or to commit
abbrev pub IsHeld : {F : Type 0} → World F → Name → Id → Type 0
IsHeld w name id = Among id ((w.workers name).to_acknowledge ++ (w.workers name).to_commit)

-- between `w` and `v` the entry was handled, with its own fields; or in `v` it is deleted from the stream
abbrev pub IsHandledSince : {F : Type 0} → World F → World F → Entry F → Type 0
IsHandledSince {F} w v e =
    ((since : List (Entry F)) × (v.handled ≡ w.handled ++ since) × Among e since) ⊎ Among e.0 v.deleted

-- if a worker starts over and does `again_rounds` or more, each entry that was pending for it is acknowledged. It was
-- handled or deleted since (`IsHandledSince`). Entries that the worker holds at the start (`IsHeld`) are left out
abbrev pub HandsOutAgain : {F : Type 0} → World F → Name → ℕ → ℕ → Type 0
HandsOutAgain {F} w name n so_many =
    (w.workers name).phase ≡ worker.own (codes "0") → again_rounds n name w ≤ so_many
    → (e : Entry F) → Among e w.seen → Among e.0 (own name w.pending) → (IsHeld w name e.0 → ⊥)
    → IsHandledSince w (rounds so_many n name w) e × Among e.0 (rounds so_many n name w).acknowledged_ids

-- `HandsOutAgain` holds whatever happened before. COUNT is at least 1
abbrev pub LostIsHandedOutAgain : Type 0 → Type 0
LostIsHandedOutAgain F = (events : List (Event F)) (name : Name) (n : ℕ) → 1 ≤ n → (so_many : ℕ)
    → HandsOutAgain (run events empty_world) name n so_many

-- `pending_in` is at most the length of the group's pending list. `mine_in` is at most the number of the consumer's own
-- entries in it
abbrev pub CountsWhatIsPending : Type 0 → Type 0
CountsWhatIsPending F = (events : List (Event F)) (name : Name)
    → (pending_in (run events empty_world) ≤ length (run events empty_world).pending)
    × (mine_in name (run events empty_world) ≤ length (own name (run events empty_world).pending))
