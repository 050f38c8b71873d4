-- Several consumers of one group, each with a file of its own, and a server that may fail over.
use Rattle.std.specs.Prelude.{◌≡◌, List, [], ◌∷◌, map}
use Rattle.model_server.specs.Group.Worker.{Id, Entry}
use Rattle.model_server.specs.Group.Group.{Name, ids_of}
use Rattle.model_server.specs.Group.World.{empty_world}
use Rattle.model_server.specs.Group.World as group
use Rattle.model_server.specs.Group.Law.{Among}
use Rattle.model_server.specs.Once.World.{Setting}
use Rattle.model_server.specs.Once.Law.{Once}
use Rattle.model_server.specs.Once.Many.{setting_of, FairAsk}
use Rattle.model_server.specs.Once.Many as once
use Rattle.model_server.specs.Failover.World.{World, Event, Plain, Arrive_waits, Ask_waits, Failover, happens}
use Rattle.model_server.specs.Failover.Law.{AllWait}

-- the server, the producer, each consumer by its name, and the states to which the server may return
pub record Many (F : Type 0) : Type 0 where
  pub now : once.Many F
  pub kept : List (group.World F)

-- the start: no entry yet
abbrev pub first_many : {F : Type 0} → Many F
first_many = record { now = once.first_many; kept = empty_world ∷ [] }

-- the world of the consumer `name`
abbrev pub world_of : {F : Type 0} → Many F → Name → World F
world_of m name = record { now = once.world_of m.now name; kept = m.kept }

-- the state `m`, with `w` as the world of the consumer `name`
abbrev pub with_world : {F : Type 0} → Many F → Name → World F → Many F
with_world m name w = record { now = once.with_world m.now name w.now; kept = w.kept }

-- the state after an event of the consumer `name`, or of the producer, the stream and others. A failover breaks its
-- connection and the producer's. Those of the other consumers may break at any time
abbrev pub happens_to : {F : Type 0} → Setting F → Many F → Name → Event F → Many F
happens_to s m name e = with_world m name (happens (setting_of s name) (world_of m name) e)

-- the state after these events, in order
abbrev pub run_many : {F : Type 0} → Setting F → List (Name × Event F) → Many F → Many F
run_many s [] m = m
run_many s (e ∷ es) m = run_many s es (happens_to s m e.0 e.1)

-- the event claims no entry that another consumer has, as `IsFair` of `model_server::once`
abbrev pub IsFair : {F : Type 0} → Many F → Name → Event F → Type 0
IsFair m name (Plain event) = once.IsFair m.now name event
IsFair m name (Arrive_waits executes asked said) = Unit {0}
IsFair m name (Ask_waits n pick next asked said) = FairAsk m.now name pick (m.now.consumers name).machine.phase
IsFair m name (Failover which) = Unit {0}

-- `IsFair` holds for each of these events, in the state before it
abbrev pub AllFair : {F : Type 0} → Setting F → Many F → List (Name × Event F) → Type 0
AllFair s m [] = Unit {0}
AllFair s m (e ∷ es) = IsFair m e.0 e.1 × AllFair s (happens_to s m e.0 e.1) es

-- the file of the consumer `name` after these events
abbrev pub file_after : {F : Type 0} → Setting F → List (Name × Event F) → Name → List (Entry F)
file_after s events name = ((run_many s events first_many).now.consumers name).file

-- no id is twice in the file of a consumer, with or without WAIT
abbrev pub EachFileOnce : Type 0 → Type 0
EachFileOnce F = (s : Setting F) (events : List (Name × Event F)) (name : Name) → Once (ids_of (file_after s events name))

-- no id is in the files of two consumers, after any failover, whoever adds. The premises are `AllWait` and `AllFair`
abbrev pub NoneInTwoFiles : Type 0 → Type 0
NoneInTwoFiles F = (s : Setting F) (events : List (Name × Event F)) → AllWait (map (λ e. e.1) events)
    → AllFair s first_many events → (id : Id) (one other : Name) → Among id (ids_of (file_after s events one))
    → Among id (ids_of (file_after s events other)) → one ≡ other
