-- No id is twice in the log or in the file, and no record is lost.
use Rattle.std.specs.Prelude.{◌⊎◌, ◌≡◌, ◌+◌, ◌<◌, ◌≤◌, ◌^◌, List, [], ◌∷◌, ◌++◌, length}
use Rattle.model_server.specs.Group.Worker.{Id, Entry}
use Rattle.model_server.specs.Group.Group.{ids_of, pending_ids}
use Rattle.model_server.specs.Group.World.{log_of, Append, Acknowledge}
use Rattle.model_server.specs.Group.Law.{Among}
use Rattle.model_server.specs.Once.Feed.{entries, known_in, knows}
use Rattle.model_server.specs.Once.World.{Setting, World, Event, Else, first_world, run}
use Rattle.model_server.specs.Once.Order.{AllInOrder}

-- the ids of the records fit into 64 bits
abbrev pub Fit : {F : Type 0} → Setting F → Type 0
Fit s = s.base + length s.records < 2 ^ 64

-- the world after these events, from the start
abbrev pub after : {F : Type 0} → Setting F → List (Event F) → World F
after s events = run s events first_world

-- the log: each entry that was added, in order, including deleted ones
abbrev pub log : {F : Type 0} → World F → List (Entry F)
log w = log_of w.stream

-- as `slice::starts_with`: `xs` is a prefix of `ys`
abbrev pub AreFirst : {A : Type 0} → List A → List A → Type 0
AreFirst {A} xs ys = (rest : List A) × (xs ++ rest ≡ ys)

-- no id is twice in the list
abbrev pub Once : List Id → Type 0
Once [] = Unit {0}
Once (id ∷ ids) = (Among id ids → ⊥) × Once ids

-- the event is no XADD by anyone but the producer
abbrev pub NoOtherAdd : {F : Type 0} → Event F → Type 0
NoOtherAdd (Else (Append id fields)) = ⊥
NoOtherAdd event = Unit {0}

-- `NoOtherAdd` holds for each of these events
abbrev pub NoOtherAdds : {F : Type 0} → List (Event F) → Type 0
NoOtherAdds [] = Unit {0}
NoOtherAdds (e ∷ es) = NoOtherAdd e × NoOtherAdds es

-- the log is a prefix of the records, with their own fields. The premises are `Fit` and `NoOtherAdds`
abbrev pub LogIsFirstRecords : Type 0 → Type 0
LogIsFirstRecords F = (s : Setting F) → Fit s → (events : List (Event F)) → NoOtherAdds events
    → AreFirst (log (after s events)) (entries s.base s.records)

-- no id is twice in the log, whoever adds to it
abbrev pub LogOnce : Type 0 → Type 0
LogOnce F = (s : Setting F) (events : List (Event F)) → Once (ids_of (log (after s events)))

-- the log has at least the number of records that the producer knows to be in the stream. The premises are `Fit` and
-- `NoOtherAdds`
abbrev pub KnownIsIn : Type 0 → Type 0
KnownIsIn F = (s : Setting F) → Fit s → (events : List (Event F)) → NoOtherAdds events
    → known_in (after s events).producer.stage ≤ length (log (after s events))

-- the producer is done: it reports that all records are in the stream
abbrev pub IsDone : {F : Type 0} → Setting F → World F → Type 0
IsDone s w = w.producer.stage ≡ knows (length s.records)

-- if the producer is done, the log is all records, in order. The other premises are `Fit` and `NoOtherAdds`
abbrev pub DoneIsAll : Type 0 → Type 0
DoneIsAll F = (s : Setting F) → Fit s → (events : List (Event F)) → NoOtherAdds events
    → IsDone s (after s events) → log (after s events) ≡ entries s.base s.records

-- the log only grows, at its end: the log after `events` is a prefix of the log after `more` events
abbrev pub LogGrows : Type 0 → Type 0
LogGrows F = (s : Setting F) (events more : List (Event F))
    → AreFirst (log (after s events)) (log (run s more (after s events)))

-- the file only grows, at its end: the file after `events` is a prefix of the file after `more` events
abbrev pub FileGrows : Type 0 → Type 0
FileGrows F = (s : Setting F) (events more : List (Event F))
    → AreFirst (after s events).consumer.file (run s more (after s events)).consumer.file

-- no id is twice in the file
abbrev pub FileOnce : Type 0 → Type 0
FileOnce F = (s : Setting F) (events : List (Event F)) → Once (ids_of (after s events).consumer.file)

-- each entry of the file is in the log, with its own fields
abbrev pub FileIsOfLog : Type 0 → Type 0
FileIsOfLog F = (s : Setting F) (events : List (Event F)) (e : Entry F)
    → Among e (after s events).consumer.file → Among e (log (after s events))

-- the event is no XACK by another consumer of the group
abbrev pub NoOtherAck : {F : Type 0} → Event F → Type 0
NoOtherAck (Else (Acknowledge name)) = ⊥
NoOtherAck event = Unit {0}

-- `NoOtherAck` holds for each of these events
abbrev pub NoOtherAcks : {F : Type 0} → List (Event F) → Type 0
NoOtherAcks [] = Unit {0}
NoOtherAcks (e ∷ es) = NoOtherAck e × NoOtherAcks es

-- the entry is undelivered, pending, in the file with its own fields, or deleted from the stream
abbrev pub IsKept : {F : Type 0} → World F → Entry F → Type 0
IsKept w e =
    Among e w.stream.fresh
    ⊎ (Among e.0 (pending_ids w.stream.pending) ⊎ (Among e w.consumer.file ⊎ Among e.0 w.stream.deleted))

-- each entry of the log is kept (`IsKept`). The premise is `NoOtherAcks`
abbrev pub EachIsKept : Type 0 → Type 0
EachIsKept F = (s : Setting F) (events : List (Event F)) → NoOtherAcks events → (e : Entry F)
    → Among e (log (after s events)) → IsKept (after s events) e

-- no entry is pending, and none is undelivered
abbrev pub IsDrained : {F : Type 0} → World F → Type 0
IsDrained w = (w.stream.pending ≡ []) × (w.stream.fresh ≡ [])

-- the file has these entries and no others, each once, in any order
abbrev pub HasEachOnce : {F : Type 0} → List (Entry F) → List (Entry F) → Type 0
HasEachOnce {F} file es =
    ((e : Entry F) → Among e es → Among e file) × (((e : Entry F) → Among e file → Among e es) × Once (ids_of file))

-- the file has each record once if the producer is done, the stream is drained and nothing is deleted. The other
-- premises are `Fit`, `NoOtherAdds` and `NoOtherAcks`
abbrev pub EachComesOutOnce : Type 0 → Type 0
EachComesOutOnce F = (s : Setting F) → Fit s → (events : List (Event F)) → NoOtherAdds events → NoOtherAcks events
    → IsDone s (after s events) → IsDrained (after s events) → (after s events).stream.deleted ≡ []
    → HasEachOnce (after s events).consumer.file (entries s.base s.records)

-- the file is a prefix of the log. The premise is that one consumer reads all in order (`AllInOrder`)
abbrev pub FileIsFirstOfLog : Type 0 → Type 0
FileIsFirstOfLog F = (s : Setting F) (events : List (Event F)) → AllInOrder s first_world events
    → AreFirst (after s events).consumer.file (log (after s events))

-- the file is the records, in order, if the producer is done and the stream is drained. The other premises are `Fit`,
-- `NoOtherAdds` and `AllInOrder`
abbrev pub WhatGoesInComesOut : Type 0 → Type 0
WhatGoesInComesOut F = (s : Setting F) → Fit s → (events : List (Event F)) → NoOtherAdds events
    → AllInOrder s first_world events
    → IsDone s (after s events) → IsDrained (after s events)
    → (after s events).consumer.file ≡ entries s.base s.records
