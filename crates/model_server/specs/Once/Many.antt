-- Several consumers of one group, each with a file of its own.
use Rattle.std.specs.Prelude.{◌⊎◌, ◌≡◌, List, [], ◌∷◌, ◌++◌, map, Bool, true, Option, Some, None}
use Rattle.model_server.specs.Group.Worker.{Id, Entry, Answer, entries_in, Phase, own, claiming, reading}
use Rattle.model_server.specs.Group.Group.{Name, ids_of, pending_ids}
use Rattle.model_server.specs.Group.World.{Append, Delete, Read, Reread, Claim, Claim_ids, Comes, Commit, Acknowledge}
use Rattle.model_server.specs.Group.World.{Ack_comes, Go_back, Crash, empty_world, with_one, log_of}
use Rattle.model_server.specs.Group.World as group
use Rattle.model_server.specs.Group.Law.{Among}
use Rattle.model_server.specs.Once.Producer.{Producer, new_producer}
use Rattle.model_server.specs.Once.Consumer.{Consumer, new_consumer}
use Rattle.model_server.specs.Once.World.{Setting, World, Event, Ask, Else, happens}
use Rattle.model_server.specs.Once.Feed.{entries}
use Rattle.model_server.specs.Once.Law.{Fit, Once, NoOtherAdds, NoOtherAcks, IsDone, IsDrained}

-- the server, the producer, and each consumer by its name
pub record Many (F : Type 0) : Type 0 where
  pub stream : group.World F
  pub producer : Producer F
  pub consumers : Name → Consumer F

-- the start: no entry yet
abbrev pub first_many : {F : Type 0} → Many F
first_many = record { stream = empty_world; producer = new_producer; consumers = λ name. new_consumer }

-- the world of the consumer `name`
abbrev pub world_of : {F : Type 0} → Many F → Name → World F
world_of m name = record { stream = m.stream; producer = m.producer; consumer = m.consumers name }

-- the setting of the consumer `name`
abbrev pub setting_of : {F : Type 0} → Setting F → Name → Setting F
setting_of s name = record { records = s.records; base = s.base; name = name }

-- the state `m`, with `w` as the world of the consumer `name`
abbrev pub with_world : {F : Type 0} → Many F → Name → World F → Many F
with_world m name w = record {
  stream = w.stream;
  producer = w.producer;
  consumers = with_one m.consumers name w.consumer;
}

-- the state after an event of the consumer `name`, or of the producer, the stream and others
abbrev pub happens_to : {F : Type 0} → Setting F → Many F → Name → Event F → Many F
happens_to s m name e = with_world m name (happens (setting_of s name) (world_of m name) e)

-- the state after these events, in order
abbrev pub run_many : {F : Type 0} → Setting F → List (Name × Event F) → Many F → Many F
run_many s [] m = m
run_many s (e ∷ es) m = run_many s es (happens_to s m e.0 e.1)

-- the ids of the entries in the reply on the way, if there is one
abbrev pub on_the_way : {F : Type 0} → Option (Answer F) → List Id
on_the_way None = []
on_the_way (Some a) = map (λ d. d.0) (entries_in a)

-- the consumer has the entry of this id, in a reply on the way, in its file, or as a line that is not synced
abbrev pub Has : {F : Type 0} → Consumer F → Id → Type 0
Has c id = Among id (on_the_way c.answer) ⊎ Among id (ids_of (c.file ++ c.lines))

-- a claim for the consumer `name` with this `pick` takes no entry that another consumer has (`Has`)
abbrev pub TakesNone : {F : Type 0} → Many F → Name → (Id → Bool) → Type 0
TakesNone m name pick = (id : Id) → pick id ≡ true → Among id (pending_ids m.stream.pending)
    → (other : Name) → Has (m.consumers other) id → other ≡ name

-- the request of the consumer in this phase takes no entry that another consumer has
abbrev pub FairAsk : {F : Type 0} → Many F → Name → (Id → Bool) → Phase → Type 0
FairAsk m name pick (own behind) = Unit {0}
FairAsk m name pick (claiming from) = TakesNone m name pick
FairAsk m name pick (reading rounds) = Unit {0}

-- the event is no claim of an entry that another consumer has, neither a late one nor one with JUSTID
abbrev pub FairElse : {F : Type 0} → Many F → group.Event F → Type 0
FairElse m (Claim name pick next) = TakesNone m name pick
FairElse m (Claim_ids name pick) = TakesNone m name pick
FairElse m event = Unit {0}

-- the event claims no entry that another consumer has
abbrev pub IsFair : {F : Type 0} → Many F → Name → Event F → Type 0
IsFair m name (Ask n pick next) = FairAsk m name pick (m.consumers name).machine.phase
IsFair m name (Else event) = FairElse m event
IsFair m name event = Unit {0}

-- `IsFair` holds for each of these events, in the state before it
abbrev pub AllFair : {F : Type 0} → Setting F → Many F → List (Name × Event F) → Type 0
AllFair s m [] = Unit {0}
AllFair s m (e ∷ es) = IsFair m e.0 e.1 × AllFair s (happens_to s m e.0 e.1) es

-- the file of the consumer `name` after these events
abbrev pub file_after : {F : Type 0} → Setting F → List (Name × Event F) → Name → List (Entry F)
file_after s events name = ((run_many s events first_many).consumers name).file

-- no id is twice in the file of a consumer
abbrev pub EachFileOnce : Type 0 → Type 0
EachFileOnce F = (s : Setting F) (events : List (Name × Event F)) (name : Name)
    → Once (ids_of (file_after s events name))

-- each entry of a consumer's file is in the log, with its own fields
abbrev pub EachFileIsOfLog : Type 0 → Type 0
EachFileIsOfLog F = (s : Setting F) (events : List (Name × Event F)) (name : Name) (e : Entry F)
    → Among e (file_after s events name) → Among e (log_of (run_many s events first_many).stream)

-- no id is in the files of two consumers. The premise is `AllFair`
abbrev pub NoneInTwoFiles : Type 0 → Type 0
NoneInTwoFiles F = (s : Setting F) (events : List (Name × Event F)) → AllFair s first_many events
    → (id : Id) (one other : Name) → Among id (ids_of (file_after s events one))
    → Among id (ids_of (file_after s events other)) → one ≡ other

-- the entry is in the file of a consumer
abbrev pub InSomeFile : {F : Type 0} → Many F → Entry F → Type 0
InSomeFile m e = (name : Name) × Among e (m.consumers name).file

-- the entry is undelivered, pending, in the file of a consumer, or deleted from the stream
abbrev pub IsKeptByOne : {F : Type 0} → Many F → Entry F → Type 0
IsKeptByOne m e =
    Among e m.stream.fresh
    ⊎ (Among e.0 (pending_ids m.stream.pending) ⊎ (InSomeFile m e ⊎ Among e.0 m.stream.deleted))

-- each entry of the log is kept (`IsKeptByOne`). The premise is `NoOtherAcks`: nobody but these consumers acknowledges
abbrev pub EachIsKeptByOne : Type 0 → Type 0
EachIsKeptByOne F = (s : Setting F) (events : List (Name × Event F)) → NoOtherAcks (map (λ e. e.1) events)
    → (e : Entry F) → Among e (log_of (run_many s events first_many).stream)
    → IsKeptByOne (run_many s events first_many) e

-- the entry is in the file of exactly one consumer
abbrev pub InOneFile : {F : Type 0} → Many F → Entry F → Type 0
InOneFile m e =
    (name : Name)
    × (Among e (m.consumers name).file × ((other : Name) → Among e.0 (ids_of (m.consumers other).file) → name ≡ other))

-- each record is in the file of exactly one consumer if the producer is done, the stream is drained and nothing is
-- deleted. The other premises are `Fit`, `NoOtherAdds`, `NoOtherAcks` and `AllFair`
abbrev pub EachComesOutInOneFile : Type 0 → Type 0
EachComesOutInOneFile F = (s : Setting F) → Fit s → (events : List (Name × Event F))
    → NoOtherAdds (map (λ e. e.1) events) → NoOtherAcks (map (λ e. e.1) events) → AllFair s first_many events
    → IsDone s (world_of (run_many s events first_many) s.name)
    → IsDrained (world_of (run_many s events first_many) s.name) → (run_many s events first_many).stream.deleted ≡ []
    → (e : Entry F) → Among e (entries s.base s.records) → InOneFile (run_many s events first_many) e
