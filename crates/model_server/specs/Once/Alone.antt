-- Redelivery of one entry at a time, to the consumer and to others.
use Rattle.std.specs.Prelude.{ℕ, ◌+◌, ◌≤◌, Bool, List, [], ◌∷◌, length, if◌then◌else◌}
use Rattle.model_server.specs.Group.Worker.{Id, Delivered, Phase, own, claiming, reading}
use Rattle.model_server.specs.Group.Group.{Name, Pending}
use Rattle.model_server.specs.Group.World as group
use Rattle.model_server.specs.Group.Law.{Among}
use Rattle.model_server.specs.Group.Alone as alone
use Rattle.model_server.specs.Once.Consumer.{is_idle}
use Rattle.model_server.specs.Once.World.{Setting, World, Event, Ask, Else, first_world, happens}
use Rattle.model_server.specs.Once.Law.{after}

-- the entries that are redelivered to the consumer by its request in this phase
abbrev pub asked_again : {F : Type 0} → Name → (Id → Bool) → Id → Phase → group.World F → List (Delivered F)
asked_again name pick next (own behind) w = alone.again w (group.Reread name pick)
asked_again name pick next (claiming from) w = alone.again w (group.Claim name pick next)
asked_again name pick next (reading rounds) w = []

-- the entries that an event redelivers, to the consumer or to another one
abbrev pub again : {F : Type 0} → Setting F → World F → Event F → List (Delivered F)
again s w (Ask n pick next) =
    if is_idle w.consumer then asked_again s.name pick next w.consumer.machine.phase w.stream else []
again s w (Else event) = alone.again w.stream event
again s w event = []

-- the number of events that redeliver the entry of this id, and no other entry
abbrev pub times_alone : {F : Type 0} → Setting F → Id → List (Event F) → World F → ℕ
times_alone s id [] w = 0
times_alone s id (e ∷ es) w = alone.alone id (again s w e) + times_alone s id es (happens s w e)

-- each event redelivers at most one entry
abbrev pub OneAtATime : {F : Type 0} → Setting F → List (Event F) → World F → Type 0
OneAtATime s [] w = Unit {0}
OneAtATime s (e ∷ es) w = (length (again s w e) ≤ 1) × OneAtATime s es (happens s w e)

-- if `OneAtATime` holds, the delivery count of a pending entry is at most 1 more than its `times_alone`
abbrev pub EachIsCountedAlone : Type 0 → Type 0
EachIsCountedAlone F = (s : Setting F) (events : List (Event F)) → OneAtATime s events first_world → (p : Pending)
    → Among p (after s events).stream.pending → p.count ≤ 1 + times_alone s p.id events first_world
