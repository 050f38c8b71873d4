-- What may be lost and what may be redelivered without WAIT: schedules in which it does.
use Rattle.std.proofs.Common.{◌≡◌, refl, ℕ, true, List, [], ◌∷◌, map, codes}
use Rattle.std.specs.Fmt.{digits}
use Rattle.model_server.specs.Group.Worker.{Id, Entry, done}
use Rattle.model_server.specs.Group.Group.{ids_of, id_text, pending_ids}
use Rattle.model_server.specs.Group.World.{Append, Delete}
use Rattle.model_server.specs.Once.Feed.{Stage, knows, entries}
use Rattle.model_server.specs.Once.World.{Setting, Send, Arrive, Arrive_late, Hear, Break, Ask, Take, Sync, Acknowledge_now, Else}
use Rattle.model_server.specs.Once.World as once
use Rattle.model_server.specs.Once.Law.{log}
use Rattle.model_server.specs.Failover.World.{World, Event, Plain, Failover, remembers, happens, first_world}
use Rattle.model_server.specs.Failover.Law.{after}

abbrev pub two : Setting ℕ
two = record { records = 7 ∷ 8 ∷ []; base = 0; name = codes "me" }

-- the producer requests the last id, and sends this number of records
abbrev adding : ℕ → List (Event ℕ) → List (Event ℕ)
adding n more =
    Plain (Send 0) ∷ Plain (Arrive true) ∷ Plain Hear ∷ Plain (Send n) ∷ Plain (Arrive true) ∷ Plain Hear ∷ more

abbrev pub stage_and_log : World ℕ → Stage × List (Entry ℕ)
stage_and_log w = (w.now.producer.stage, log w.now)

-- the server replied that both are added, and the producer is done
pub answered : stage_and_log (after two (adding 2 [])) ≡ (knows 2, entries 0 (7 ∷ 8 ∷ []))
unfolding digits
answered = refl

-- then the master fails, and a replica without the batch is the new master: both are gone
pub answered_is_lost : log (after two (adding 2 (Failover 4 ∷ []))).now ≡ []
answered_is_lost = refl

-- the first record is added, and the second is on the way as the master fails. If it reaches the new master, the first
-- can no longer be added: its id is below the last one. The producer counts both as added
abbrev gap : List (Event ℕ)
gap =
    adding 1 (Plain (Send 1) ∷ Failover 4 ∷ Plain (Arrive_late 0 true) ∷ Plain (Send 0) ∷ Plain (Arrive true) ∷
    Plain Hear ∷ [])

pub first_is_lost : stage_and_log (after two gap) ≡ (knows 2, entries 1 (8 ∷ []))
unfolding digits
first_is_lost = refl

abbrev ask : Event ℕ
ask = Plain (Ask 4 (λ id. true) (codes "0-0"))

-- it gets the new entries, does the first of them, commits and acknowledges
abbrev handling : List (Event ℕ) → List (Event ℕ)
handling more =
    ask ∷ Plain (Take []) ∷ ask ∷ Plain (Take []) ∷ ask ∷ Plain (Take (done ∷ [])) ∷ Plain Sync ∷
    Plain Acknowledge_now ∷ Plain (Take []) ∷ more

-- what it did, what is pending, and what is undelivered
abbrev pub file_pending_fresh : World ℕ → List Id × List Id × List Id
file_pending_fresh w = (
  ids_of w.now.consumer.file,
  pending_ids w.now.stream.pending,
  ids_of w.now.stream.fresh,
)

abbrev pub first_one : List Id
first_one = map id_text ((1, 0) ∷ [])

-- an entry that was handled and acknowledged is undelivered again, as a new entry, to any consumer of the group
pub handled_is_new : file_pending_fresh (after two (adding 1 (handling (Failover 5 ∷ []))))
    ≡ (first_one, [], first_one)
unfolding digits
handled_is_new = refl

-- if it arrives at the same consumer, that finds its id in the file, and adds no second line
pub looked_up : file_pending_fresh (after two (adding 1 (handling (Failover 5 ∷ handling [])))) ≡ (first_one, [], [])
unfolding digits
looked_up = refl

-- the same of a consumer that does not check its file
abbrev does_not_look : World ℕ → Event ℕ → World ℕ
does_not_look w (Plain (Take verdicts)) = remembers w.kept (once.happens two w.now (Take verdicts))
does_not_look w e = happens two w e

abbrev pub run_by : (World ℕ → Event ℕ → World ℕ) → List (Event ℕ) → World ℕ → World ℕ
run_by next [] w = w
run_by next (e ∷ es) w = run_by next es (next w e)

pub line_twice : file_pending_fresh (run_by does_not_look (adding 1 (handling (Failover 5 ∷ handling []))) first_world)
    ≡ (map id_text ((1, 0) ∷ (1, 0) ∷ []), [], [])
unfolding digits
line_twice = refl

-- a failover loses an entry that was handled, and another adds one with its id and other fields. The consumer looks the
-- id up, and acknowledges it without a line: those fields are in the log, and in no file
abbrev adding_again : World ℕ
adding_again = after two (adding 1 (handling (Failover 12 ∷ Plain (Else (Append (1, 0) 9)) ∷ handling [])))

pub other_is_acknowledged : file_pending_fresh adding_again ≡ (first_one, [], [])
unfolding digits
other_is_acknowledged = refl

pub log_has_others : log adding_again.now ≡ (id_text (1, 0), 9) ∷ []
unfolding digits
log_has_others = refl

pub file_has_first : adding_again.now.consumer.file ≡ (id_text (1, 0), 7) ∷ []
unfolding digits
file_has_first = refl

-- an entry that is pending is deleted, and so comes without its fields. The consumer is to acknowledge it, and does so
-- after a failover to a master that has it. Then it is in the log, and in no other place
abbrev deleting : List (Event ℕ)
deleting =
    ask ∷ Plain (Take []) ∷ ask ∷ Plain (Take []) ∷ ask ∷ Plain (Take []) ∷ Plain (Else (Delete (id_text (1, 0)))) ∷ ask ∷
    Plain (Take (done ∷ [])) ∷ Plain Sync ∷ Failover 4 ∷ Plain Acknowledge_now ∷ []

pub deletion_is_lost : file_pending_fresh (after two (adding 1 deleting)) ≡ ([], [], [])
unfolding digits
deletion_is_lost = refl

pub nothing_is_deleted : (after two (adding 1 deleting)).now.stream.deleted ≡ []
unfolding digits
nothing_is_deleted = refl

pub log_has_it : ids_of (log (after two (adding 1 deleting)).now) ≡ first_one
unfolding digits
log_has_it = refl
