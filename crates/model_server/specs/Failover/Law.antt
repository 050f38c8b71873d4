-- A failover loses nothing that was confirmed, and no file gets an entry twice.
use Rattle.std.specs.Prelude.{◌≡◌, ◌≤◌, List, [], ◌∷◌, length, take, Option, Some, None}
use Rattle.model_server.specs.Group.Worker.{Entry, Delivered, Answer, entries_in}
use Rattle.model_server.specs.Group.Group.{ids_of}
use Rattle.model_server.specs.Group.World.{Delete}
use Rattle.model_server.specs.Group.Law.{Among}
use Rattle.model_server.specs.Once.Feed.{entries, known_in}
use Rattle.model_server.specs.Once.Consumer.{new_consumer}
use Rattle.model_server.specs.Once.World.{Setting, Arrive, Ask, Else}
use Rattle.model_server.specs.Once.Law.{Fit, AreFirst, Once, IsDone, IsKept, IsDrained, HasEachOnce, log}
use Rattle.model_server.specs.Once.Law.{NoOtherAck, NoOtherAdd}
use Rattle.model_server.specs.Failover.Lookup.{Move, moved_on}
use Rattle.model_server.specs.Failover.World.{World, Event, Plain, first_world, run}

-- the world after these events, from the start
abbrev pub after : {F : Type 0} → Setting F → List (Event F) → World F
after s events = run s events first_world

-- the event is no `Arrive` without a WAIT: the producer sends one after each request that arrives on its connection
abbrev pub ProducerWaits : {F : Type 0} → Event F → Type 0
ProducerWaits (Plain (Arrive executes)) = ⊥
ProducerWaits event = Unit {0}

-- `ProducerWaits` holds for each of these events
abbrev pub ProducerAlwaysWaits : {F : Type 0} → List (Event F) → Type 0
ProducerAlwaysWaits [] = Unit {0}
ProducerAlwaysWaits (e ∷ es) = ProducerWaits e × ProducerAlwaysWaits es

-- the event is no `Arrive` and no `Ask` without a WAIT: the producer and the consumer send one after each such request
abbrev pub Waits : {F : Type 0} → Event F → Type 0
Waits (Plain (Arrive executes)) = ⊥
Waits (Plain (Ask n pick next)) = ⊥
Waits event = Unit {0}

-- `Waits` holds for each of these events
abbrev pub AllWait : {F : Type 0} → List (Event F) → Type 0
AllWait [] = Unit {0}
AllWait (e ∷ es) = Waits e × AllWait es

-- the event is no XADD by anyone but the producer
abbrev pub NoneAddedByOthers : {F : Type 0} → Event F → Type 0
NoneAddedByOthers (Plain event) = NoOtherAdd event
NoneAddedByOthers event = Unit {0}

-- `NoneAddedByOthers` holds for each of these events
abbrev pub NoOtherAdds : {F : Type 0} → List (Event F) → Type 0
NoOtherAdds [] = Unit {0}
NoOtherAdds (e ∷ es) = NoneAddedByOthers e × NoOtherAdds es

-- the event is no XACK by another consumer of the group
abbrev pub NoneByOthers : {F : Type 0} → Event F → Type 0
NoneByOthers (Plain event) = NoOtherAck event
NoneByOthers event = Unit {0}

-- `NoneByOthers` holds for each of these events
abbrev pub NoOtherAcks : {F : Type 0} → List (Event F) → Type 0
NoOtherAcks [] = Unit {0}
NoOtherAcks (e ∷ es) = NoneByOthers e × NoOtherAcks es

-- no id is twice in the file, with or without WAIT
abbrev pub FileOnce : Type 0 → Type 0
FileOnce F = (s : Setting F) (events : List (Event F)) → Once (ids_of (after s events).now.consumer.file)

-- no id is twice in the file, whatever the server delivers. It may lose all its data, or give one id to two entries
abbrev pub FileOnceOfAnyServer : Type 0 → Type 0
FileOnceOfAnyServer F = (moves : List (Move F)) → Once (ids_of (moved_on moves new_consumer).file)

-- the file only grows, at its end: the file after `events` is a prefix of the file after `more` events
abbrev pub FileGrows : Type 0 → Type 0
FileGrows F = (s : Setting F) (events more : List (Event F))
    → AreFirst (after s events).now.consumer.file (run s more (after s events)).now.consumer.file

-- each entry of the log is one of the records, with its own fields, with or without WAIT. The premise is `NoOtherAdds`
abbrev pub LogIsOfRecords : Type 0 → Type 0
LogIsOfRecords F = (s : Setting F) (events : List (Event F)) → NoOtherAdds events → (e : Entry F)
    → Among e (log (after s events).now) → Among e (entries s.base s.records)

-- each entry of the file is one of the records, with its own fields, with or without WAIT. The premise is `NoOtherAdds`
abbrev pub FileIsOfRecords : Type 0 → Type 0
FileIsOfRecords F = (s : Setting F) (events : List (Event F)) → NoOtherAdds events → (e : Entry F)
    → Among e (after s events).now.consumer.file → Among e (entries s.base s.records)

-- the entries in the reply on the way, if there is one
abbrev pub on_the_way : {F : Type 0} → Option (Answer F) → List (Delivered F)
on_the_way None = []
on_the_way (Some a) = entries_in a

-- if the id of a delivered entry is in the file, its fields are those in the file, with or without WAIT. The premises
-- are `Fit` and `NoOtherAdds`
abbrev pub ComesAsWritten : Type 0 → Type 0
ComesAsWritten F = (s : Setting F) → Fit s → (events : List (Event F)) → NoOtherAdds events → (e : Entry F) (fields : F)
    → Among e (after s events).now.consumer.file
    → Among (e.0, Some fields) (on_the_way (after s events).now.consumer.answer) → fields ≡ e.1

-- the event deletes no entry
abbrev pub NoDelete : {F : Type 0} → Event F → Type 0
NoDelete (Plain (Else (Delete id))) = ⊥
NoDelete event = Unit {0}

-- `NoDelete` holds for each of these events
abbrev pub NoDeletes : {F : Type 0} → List (Event F) → Type 0
NoDeletes [] = Unit {0}
NoDeletes (e ∷ es) = NoDelete e × NoDeletes es

-- each entry of the log is undelivered, pending or in the file, with or without WAIT. The premises are `Fit`,
-- `NoOtherAdds`, `NoOtherAcks` and `NoDeletes`. So the entries that a failover loses are no longer in the log
abbrev pub LogIsKept : Type 0 → Type 0
LogIsKept F = (s : Setting F) → Fit s → (events : List (Event F)) → NoOtherAdds events → NoOtherAcks events
    → NoDeletes events → (e : Entry F) → Among e (log (after s events).now) → IsKept (after s events).now e

-- the log is a prefix of the records. The premises are `Fit`, `NoOtherAdds` and `ProducerAlwaysWaits`
abbrev pub LogIsFirstRecords : Type 0 → Type 0
LogIsFirstRecords F = (s : Setting F) → Fit s → (events : List (Event F)) → NoOtherAdds events
    → ProducerAlwaysWaits events
    → AreFirst (log (after s events).now) (entries s.base s.records)

-- after any `more` events, the log has at least the number of records that the producer knew to be in the stream. The
-- premises are `Fit`, `NoOtherAdds` and `ProducerAlwaysWaits`
abbrev pub KnownStaysIn : Type 0 → Type 0
KnownStaysIn F = (s : Setting F) → Fit s → (events more : List (Event F)) → NoOtherAdds events → NoOtherAdds more
    → ProducerAlwaysWaits events → ProducerAlwaysWaits more
    → known_in (after s events).now.producer.stage ≤ length (log (run s more (after s events)).now)

-- each entry of the file is in the log, with its own fields, after any failover, whoever adds. The premise is `AllWait`
abbrev pub FileIsOfLog : Type 0 → Type 0
FileIsOfLog F = (s : Setting F) (events : List (Event F)) → AllWait events → (e : Entry F)
    → Among e (after s events).now.consumer.file → Among e (log (after s events).now)

-- no entry of the file is undelivered, after any failover. So no consumer gets it as a new entry. The premise is
-- `AllWait`
abbrev pub HandledIsNotNew : Type 0 → Type 0
HandledIsNotNew F = (s : Setting F) (events : List (Event F)) → AllWait events → (e : Entry F)
    → Among e (after s events).now.consumer.file → Among e (after s events).now.stream.fresh → ⊥

-- each record that the producer knew to be in the stream is undelivered, pending or in the file, after any `more`
-- events. The premises are `Fit`, `NoOtherAdds`, `ProducerAlwaysWaits`, `NoOtherAcks` and `NoDeletes`. The consumer
-- need not send WAIT
abbrev pub ProducerLosesNothing : Type 0 → Type 0
ProducerLosesNothing F = (s : Setting F) → Fit s → (events more : List (Event F)) → NoOtherAdds events → NoOtherAdds more
    → ProducerAlwaysWaits events → ProducerAlwaysWaits more → NoOtherAcks events → NoOtherAcks more
    → NoDeletes events → NoDeletes more → (e : Entry F)
    → Among e (take (known_in (after s events).now.producer.stage) (entries s.base s.records))
    → IsKept (run s more (after s events)).now e

-- each record that the producer knew to be in the stream is undelivered, pending, in the file or deleted, after any
-- `more` events. The premises are `Fit`, `NoOtherAdds`, `AllWait` and `NoOtherAcks`
abbrev pub NothingConfirmedIsLost : Type 0 → Type 0
NothingConfirmedIsLost F = (s : Setting F) → Fit s → (events more : List (Event F)) → NoOtherAdds events → NoOtherAdds more
    → AllWait events → AllWait more → NoOtherAcks events → NoOtherAcks more → (e : Entry F)
    → Among e (take (known_in (after s events).now.producer.stage) (entries s.base s.records))
    → IsKept (run s more (after s events)).now e

-- the file has each record once if the producer once was done, the stream is drained and nothing is deleted. The other
-- premises are `Fit`, `NoOtherAdds`, `AllWait` and `NoOtherAcks`
abbrev pub EachComesOutOnce : Type 0 → Type 0
EachComesOutOnce F = (s : Setting F) → Fit s → (events more : List (Event F)) → NoOtherAdds events → NoOtherAdds more
    → AllWait events → AllWait more → NoOtherAcks events → NoOtherAcks more → IsDone s (after s events).now
    → IsDrained (run s more (after s events)).now → (run s more (after s events)).now.stream.deleted ≡ []
    → HasEachOnce (run s more (after s events)).now.consumer.file (entries s.base s.records)
