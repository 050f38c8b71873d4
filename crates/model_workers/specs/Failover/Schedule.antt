-- The code of a worker that checks its file is the consumer of `model_server::failover`, whose server may return to an
-- earlier state.
use Rattle.std.specs.Prelude.{◌≡◌, List, [], ◌∷◌, ◌++◌, take, true, false, Option, Some}
use Rattle.redis_connection.specs.Link.{Link}
use Rattle.worker.specs.declared.confirm.error.RoundError.{RoundError}
use Rattle.model_server.specs.Failover.Law.{after, AllWait, ProducerAlwaysWaits, NoOtherAdds, NoOtherAcks, NoDeletes}
use Rattle.model_server.specs.Failover.World.{World, Event, Plain, run}
use Rattle.redis_connection.specs.declared.wait.Wait.{Wait}
use Rattle.model_workers.specs.Files.Files.{Fields}
use Rattle.model_server.specs.Group.Group.{ids_of}
use Rattle.model_server.specs.Group.Law.{Among}
use Rattle.model_server.specs.Group.Worker.{Entry}
use Rattle.model_server.specs.Once.Consumer.{Consumer}
use Rattle.model_server.specs.Once.Feed.{entries, known_in}
use Rattle.model_server.specs.Once.Law.{Fit, Once, IsKept, IsDone, IsDrained, HasEachOnce, log}
use Rattle.model_server.specs.Once.World.{Setting, Take, Reconnect, Restart}
use Rattle.model_workers.specs.System.Rounds.{IsStarted}
use Rattle.worker.specs.Session.{Standing, standing_of}
use Rattle.worker.specs.declared.state.Asked.{Asked}
use Rattle.worker.specs.declared.state.Settings.{Settings}
use Rattle.worker.specs.declared.worker.Progress.{Progress}
use Rattle.worker.specs.declared.worker.Worker.{Worker}
use Rattle.model_workers.specs.Failover.Keeps.{Keeps, LooksUp}
use Rattle.model_workers.specs.Failover.Rounds.{IsConsumer, AreBesides, Meantime, HearsTheReply, IsRound, turn_of, HearsTheWait}
use Rattle.model_workers.specs.Failover.Rounds.{until_replied, IsFailure, failure_events, FailsHearing, again, Moment, events_until}
use Rattle.model_workers.specs.Failover.Rounds.{StartsOver, start_events}

module _ {R : Type 0} (k : Keeps R) (s : Setting Fields) (wait : Option Wait) where
  -- the premises of a round that returns `Ok`: this server sent the reply, and the reply to WAIT
  pub record IsServed (settings : Settings) (old new : Link) (v x : Standing R) (asked : Asked) (p : Progress)
      (m : Meantime true) (w : World Fields) (r : IsRound k settings v x wait old new asked p) : Type 0 where
    pub reply : HearsTheReply k wait settings v m s w (turn_of k settings v x wait old new asked p r).answer
    pub heard : HearsTheWait k settings v x wait old new asked p r m.fate

  -- the events of a round that returns `Ok`
  abbrev pub round_events : (settings : Settings) (old new : Link) (v x : Standing R) (asked : Asked) (p : Progress)
      (m : Meantime true) → IsRound k settings v x wait old new asked p → List (Event Fields)
  round_events settings old new v x asked p m r = until_replied k wait settings v m
      ++ Plain (Take (turn_of k settings v x wait old new asked p r).verdicts) ∷ []

  -- the state of the consumer when it crashes at this moment
  abbrev pub consumer_at : Settings → Standing R → Moment → World Fields → Consumer Fields
  consumer_at settings v moment w = (run s (events_until k wait settings v moment) w).now.consumer

  -- a crash at this moment, and a start with these settings
  abbrev pub StartsAt : (settings with_settings : Settings) → World Fields → (v x : Standing R) → Moment → Type 0
  StartsAt settings with_settings w v x moment = StartsOver k with_settings (consumer_at settings v moment w) x

  abbrev pub restart_events : (settings with_settings : Settings) (w : World Fields) (v x : Standing R) (moment : Moment)
      → StartsAt settings with_settings w v x moment → List (Event Fields)
  restart_events settings with_settings w v x moment t = events_until k wait settings v moment
      ++ start_events k with_settings (consumer_at settings v moment w) x t

-- a worker with these settings may be in this state after these events of the model. The worker is first
-- started over an empty file. Then others act, a round is made, a round fails or is not confirmed, a connection
-- breaks, or the worker crashes and is started again. The server may fail over when a round fails, when a
-- connection breaks, and before a crash
pub data Runs {R : Type 0} (k : Keeps R) (s : Setting Fields) (wait : Option Wait)
    : Settings → List (Event Fields) → Standing R → Type 0 where
  begins : (settings : Settings) (worker : Worker) → IsStarted settings [] worker
      → Runs k s wait settings (Plain (Restart settings.every 0 0) ∷ []) (standing_of worker (k.written [] []))
  rests : (settings : Settings) (events others : List (Event Fields)) (v : Standing R) → AreBesides true others
      → Runs k s wait settings events v → Runs k s wait settings (events ++ others) v
  turns : (settings : Settings) (events : List (Event Fields)) (old new : Link) (v x : Standing R) (asked : Asked)
      (p : Progress) (m : Meantime true) (r : IsRound k settings v x wait old new asked p)
      → IsServed k s wait settings old new v x asked p m (after s events) r → Runs k s wait settings events v
      → Runs k s wait settings (events ++ round_events k s wait settings old new v x asked p m r) x
  fails : (settings : Settings) (events : List (Event Fields)) (old new : Link) (v x : Standing R) (e : RoundError)
      (m : Meantime false) (f : IsFailure k settings v x wait old new e)
      → FailsHearing k settings v x s (after s events) wait m old new e f → Runs k s wait settings events v
      → Runs k s wait settings (events ++ failure_events k settings v x wait m old new e f) x
  breaks : (settings : Settings) (events others : List (Event Fields)) (v : Standing R) → AreBesides false others
      → Runs k s wait settings events v
      → Runs k s wait settings (events ++ (others ++ Plain Reconnect ∷ [])) (again v)
  restarts : (settings with_settings : Settings) (events : List (Event Fields)) (v x : Standing R) (moment : Moment)
      (t : StartsAt k s wait settings with_settings (after s events) v x moment) → Runs k s wait settings events v
      → Runs k s wait with_settings
      (events ++ restart_events k s wait settings with_settings (after s events) v x moment t) x

-- the law: after each schedule the worker is the consumer of the model after the events of the schedule
abbrev pub RunsAreEvents : Type 0 → Type 0
RunsAreEvents R = (k : Keeps R) → LooksUp k → (s : Setting Fields) (wait : Option Wait) (settings : Settings)
    (events : List (Event Fields)) (v : Standing R) → Runs k s wait settings events v
    → IsConsumer k v (after s events).now.consumer

-- the law: if the worker sends WAIT, a WAIT follows each of its requests for entries
abbrev pub RunsWait : Type 0 → Type 0
RunsWait R = (k : Keeps R) (s : Setting Fields) (w : Wait) (settings : Settings)
    (events : List (Event Fields)) (v : Standing R) → Runs k s (Some w) settings events v
    → ProducerAlwaysWaits events → AllWait events

-- the entries in the file of the consumer after these events
abbrev pub file_after : Setting Fields → List (Event Fields) → List (Entry Fields)
file_after s events = (after s events).now.consumer.file

-- the handler has committed the entries `file`
abbrev pub HasFile : {R : Type 0} → Keeps R → Standing R → List (Entry Fields) → Type 0
HasFile k v file = (lines : List (Entry Fields)) × (v.history ≡ k.written lines file)

-- the law: no id is twice in the file of the worker, with or without WAIT
abbrev pub CodeWritesOnce : Type 0 → Type 0
CodeWritesOnce R = (k : Keeps R) → LooksUp k → (s : Setting Fields) (wait : Option Wait) (settings : Settings)
    (events : List (Event Fields)) (v : Standing R) → Runs k s wait settings events v
    → HasFile k v (file_after s events) × Once (ids_of (file_after s events))

-- the law of a worker and a producer that send WAIT. After any failover each entry of the file is in the log,
-- with its own fields. No consumer gets such an entry as a new one
abbrev pub CodeWritesTheLog : Type 0 → Type 0
CodeWritesTheLog R = (k : Keeps R) → LooksUp k → (s : Setting Fields) (w : Wait) (settings : Settings)
    (events : List (Event Fields)) (v : Standing R) → Runs k s (Some w) settings events v → ProducerAlwaysWaits events
    → HasFile k v (file_after s events) × ((e : Entry Fields) → Among e (file_after s events)
    → Among e (log (after s events).now) × (Among e (after s events).now.stream.fresh → ⊥))

-- the producer sends WAIT. No other client adds or acknowledges entries
abbrev pub NobodyElse : List (Event Fields) → Type 0
NobodyElse events = ProducerAlwaysWaits events × NoOtherAdds events × NoOtherAcks events

-- the law of records that the producer knew to be in the stream, if `NobodyElse` holds. Each record is
-- undelivered, pending, in the file, or deleted, whatever happened later
abbrev pub CodeLosesNothing : Type 0 → Type 0
CodeLosesNothing R = (k : Keeps R) → LooksUp k → (s : Setting Fields) → Fit s → (w : Wait) (settings : Settings)
    (earlier later : List (Event Fields)) (v : Standing R) → Runs k s (Some w) settings (earlier ++ later) v
    → NobodyElse earlier → NobodyElse later → (e : Entry Fields)
    → Among e (take (known_in (after s earlier).now.producer.stage) (entries s.base s.records))
    → HasFile k v (file_after s (earlier ++ later)) × IsKept (after s (earlier ++ later)).now e

-- the law: `CodeLosesNothing` also holds for a worker without WAIT, if no client deletes entries
abbrev pub CodeLosesNothingAdded : Type 0 → Type 0
CodeLosesNothingAdded R = (k : Keeps R) → LooksUp k → (s : Setting Fields) → Fit s → (wait : Option Wait)
    (settings : Settings) (earlier later : List (Event Fields)) (v : Standing R)
    → Runs k s wait settings (earlier ++ later) v → NobodyElse earlier → NobodyElse later
    → NoDeletes earlier → NoDeletes later → (e : Entry Fields)
    → Among e (take (known_in (after s earlier).now.producer.stage) (entries s.base s.records))
    → HasFile k v (file_after s (earlier ++ later)) × IsKept (after s (earlier ++ later)).now e

-- the law: the file has each record once, if `NobodyElse` holds. The producer reported that all records are
-- added, the stream is drained, and nothing is deleted
abbrev pub CodeWritesEachRecord : Type 0 → Type 0
CodeWritesEachRecord R = (k : Keeps R) → LooksUp k → (s : Setting Fields) → Fit s → (w : Wait) (settings : Settings)
    (earlier later : List (Event Fields)) (v : Standing R) → Runs k s (Some w) settings (earlier ++ later) v
    → NobodyElse earlier → NobodyElse later → IsDone s (after s earlier).now
    → IsDrained (after s (earlier ++ later)).now → (after s (earlier ++ later)).now.stream.deleted ≡ []
    → HasFile k v (file_after s (earlier ++ later))
    × HasEachOnce (file_after s (earlier ++ later)) (entries s.base s.records)
