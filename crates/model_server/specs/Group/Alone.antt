-- Redelivery of one entry at a time, and what the delivery count of a pending entry means then.
use Rattle.std.specs.Prelude.{ℕ, ◌+◌, ◌≤◌, List, [], ◌∷◌, length}
use Rattle.model_server.specs.Group.Worker.{Id, Delivered}
use Rattle.model_server.specs.Group.Group.{Pending, reread, claim_answer}
use Rattle.model_server.specs.Group.World.{World, Event, Reread, Claim, whole_one, happens, run, empty_world}
use Rattle.model_server.specs.Group.Law.{Among, times}

-- the entries that an event redelivers, in the reply to XREADGROUP with an id or to XAUTOCLAIM
abbrev pub again : {F : Type 0} → World F → Event F → List (Delivered F)
again w (Reread consumer pick) = reread pick consumer w.pending w.deleted w.seen
again w (Claim consumer pick next) = claim_answer pick w.pending w.deleted w.seen
again w event = []

-- 1 if the list is the entry of this id alone, with its fields; else 0
abbrev pub alone : {F : Type 0} → Id → List (Delivered F) → ℕ
alone id [] = 0
alone id (d ∷ []) = times id (whole_one d.0 d.1)
alone id (d ∷ e ∷ ds) = 0

-- the number of events that redeliver the entry of this id, and no other entry
abbrev pub times_alone : {F : Type 0} → Id → List (Event F) → World F → ℕ
times_alone id [] w = 0
times_alone id (e ∷ es) w = alone id (again w e) + times_alone id es (happens w e)

-- each event redelivers at most one entry, as with COUNT 1 in each request for pending entries
abbrev pub OneAtATime : {F : Type 0} → List (Event F) → World F → Type 0
OneAtATime [] w = Unit {0}
OneAtATime (e ∷ es) w = (length (again w e) ≤ 1) × OneAtATime es (happens w e)

-- if `OneAtATime` holds, the delivery count of a pending entry is at most 1 more than its `times_alone`. So each of its
-- deliveries after the first was of this entry alone
abbrev pub EachIsCountedAlone : Type 0 → Type 0
EachIsCountedAlone F = (events : List (Event F)) → OneAtATime events empty_world → (p : Pending)
    → Among p (run events empty_world).pending → p.count ≤ 1 + times_alone p.id events empty_world
