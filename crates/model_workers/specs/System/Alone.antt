-- The count of a pending entry is of that entry alone, if the workers of a consumer request redelivered entries one
-- at a time.
use Rattle.std.specs.Prelude.{◌≡◌, ◌+◌, ◌≤◌, true, List, [], ◌∷◌, length}
use Rattle.model_server.specs.Group.Worker.{entries_in}
use Rattle.model_server.specs.Group.Group.{Pending}
use Rattle.model_server.specs.Group.Law.{Among}
use Rattle.model_server.specs.Group.Alone as group
use Rattle.model_workers.specs.Files.Files.{Fields}
use Rattle.model_server.specs.Once.Alone.{times_alone}
use Rattle.model_server.specs.Once.Consumer.{answer_for}
use Rattle.model_server.specs.Once.Law.{after}
use Rattle.model_server.specs.Once.World.{Setting, World, Event, Ask, Else, first_world, happens}
use Rattle.worker.specs.Gathered.{Doings}
use Rattle.worker.specs.Session.{Standing}
use Rattle.worker.specs.declared.state.Settings.{Settings}
use Rattle.model_workers.specs.System.Once.{Runs, begins, waits, turns, fails, restarts}

-- the server respects COUNT: its reply to the consumer has at most `n` entries. It redelivers to others one
-- entry at a time
abbrev pub KeepsToCount : Setting Fields → World Fields → Event Fields → Type 0
KeepsToCount s w (Ask n pick next) =
    length (entries_in (answer_for s.name n pick next w.consumer.machine.phase w.stream)) ≤ n
KeepsToCount s w (Else event) = length (group.again w.stream event) ≤ 1
KeepsToCount s w event = Unit {0}

-- `KeepsToCount` holds for each of these events
abbrev pub AllKeepToCount : Setting Fields → List (Event Fields) → World Fields → Type 0
AllKeepToCount s [] w = Unit {0}
AllKeepToCount s (e ∷ es) w = KeepsToCount s w e × AllKeepToCount s es (happens s w e)

-- each worker of a schedule is started with the setting `one_at_a_time`
abbrev pub StartsAlone : {s : Setting Fields} {settings : Settings} {events : List (Event Fields)} {v : Standing Doings}
    → Runs s settings events v → Type 0
StartsAlone (begins settings worker started) = settings.one_at_a_time ≡ true
StartsAlone (waits settings events others v are r) = StartsAlone r
StartsAlone (turns settings events v m t p ends hears r) = StartsAlone r
StartsAlone (fails settings events old new v x e m f hears r) = StartsAlone r
StartsAlone (restarts settings with_settings events v x moment t r) =
    (with_settings.one_at_a_time ≡ true) × StartsAlone r

-- the law: a pending entry that was delivered n times was delivered by itself at least n - 1 times
abbrev pub CodeIsCountedAlone : Type 0
CodeIsCountedAlone = (s : Setting Fields) (settings : Settings) (events : List (Event Fields)) (v : Standing Doings)
    (r : Runs s settings events v) → StartsAlone r → AllKeepToCount s events first_world → (p : Pending)
    → Among p (after s events).stream.pending → p.count ≤ 1 + times_alone s p.id events first_world
