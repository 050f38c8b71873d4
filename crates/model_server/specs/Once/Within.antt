-- The number of lines that a commit adds is at most the number of entries in a reply.
use Rattle.std.specs.Prelude.{◌≤◌, ℕ, List, [], ◌∷◌, length, take}
use Rattle.model_server.specs.Group.Worker.{entries_in}
use Rattle.model_server.specs.Once.Consumer.{answer_for, last_added}
use Rattle.model_server.specs.Once.World.{Setting, World, Event, Ask, first_world, happens}
use Rattle.model_server.specs.Once.Law.{after}

-- the event is no request whose reply has more than `number` entries
abbrev pub IsWithin : {F : Type 0} → ℕ → Setting F → World F → Event F → Type 0
IsWithin number s w (Ask n pick next) =
    length (entries_in (answer_for s.name n pick next w.consumer.machine.phase w.stream)) ≤ number
IsWithin number s w event = Unit {0}

-- `IsWithin` holds for each of these events, in the world before it
abbrev pub AllWithin : {F : Type 0} → ℕ → Setting F → World F → List (Event F) → Type 0
AllWithin number s w [] = Unit {0}
AllWithin number s w (e ∷ es) = IsWithin number s w e × AllWithin number s (happens s w e) es

-- if `AllWithin` holds, the last commit added at most `number` lines. This includes a commit that a crash interrupts
-- now
abbrev pub CommitsAreWithin : Type 0 → Type 0
CommitsAreWithin F = (s : Setting F) (events : List (Event F)) (number : ℕ) → AllWithin number s first_world events
    → (kept : ℕ)
    → last_added (after s events).consumer.last_commit (take kept (after s events).consumer.lines) ≤ number
