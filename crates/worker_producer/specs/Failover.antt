-- A producer's code whose rounds are confirmed by WAIT is the producer of `model_server::failover`, whose server may go back
-- to an earlier state.
use Rattle.std.specs.Prelude.{◌≡◌, ◌≤◌, ◌<◌, ℕ, Bool, List, [], ◌∷◌, ◌++◌, length, Option, Some}
use Rattle.redis_connection.specs.Link.{Link}
use Rattle.model_server.specs.Once.Feed.{entries, known_in}
use Rattle.model_server.specs.Once.Law.{Fit, log}
use Rattle.model_server.specs.Once.World.{Setting, Send, Hear, Break}
use Rattle.model_server.specs.Failover.Law.{after, NoOtherAdds, ProducerAlwaysWaits}
use Rattle.model_server.specs.Failover.World.{World, Event, Plain, Arrive_waits, Ask_waits, Failover, run}
use Rattle.worker_producer.specs.Confirmed.{IsConfirmedRound, BreaksConfirmed, Confirms}
use Rattle.worker_producer.specs.Machine.{Standing, idle}
use Rattle.worker_producer.specs.Records.{Fields}
use Rattle.worker_producer.specs.Schedule.{IsProducer, IsOfOthers, SendsTheRecords, IsHeard, heard_last, IsSentOfTheRecords}
use Rattle.worker_producer.specs.declared.confirmed.ConfirmedError.{ConfirmedError}
use Rattle.worker_producer.specs.declared.confirmed.ConfirmedError.TheVariants as ends
use Rattle.worker_producer.specs.declared.error.RunError.TheVariants as causes
use Rattle.worker_producer.specs.declared.settings.Settings.{Settings}
use Rattle.worker_producer.specs.declared.stage.Asked.{Asked}
use Rattle.worker_producer.specs.declared.stage.Asked.TheVariants as asked
use Rattle.redis_connection.specs.declared.wait.Wait.{Wait}

-- the event is not one of the producer's connection, and not a failover
abbrev pub IsBesides : Event Fields → Type 0
IsBesides (Plain event) = IsOfOthers event
IsBesides (Arrive_waits executes asked said) = ⊥
IsBesides (Ask_waits n pick next asked said) = Unit {0}
IsBesides (Failover which) = ⊥

-- each of these is such an event
abbrev pub AreBesides : List (Event Fields) → Type 0
AreBesides [] = Unit {0}
AreBesides (e ∷ es) = IsBesides e × AreBesides es

-- the fate of a round's commands, and of the WAIT after them
pub data Fate : Type 0 where
  -- they reach the server in this round, which executes them, or refuses all of them; this number of replicas confirm
  comes : (executes : Bool) (said : ℕ) → Fate
  -- they arrive later, or never
  comes_not : Fate

-- the events of others in a round, and the fate of its commands
pub record Meantime : Type 0 where
  pub earlier : List (Event Fields)  -- after it sent its commands, before they arrive at the server
  pub fate : Fate
  pub later : List (Event Fields)  -- after that, before the producer takes the last reply
  pub earlier_besides : AreBesides earlier
  pub later_besides : AreBesides later

-- the commands reach the server, with a WAIT for this number of replicas after them
abbrev pub arrival : ℕ → Fate → List (Event Fields)
arrival wanted (comes executes said) = Arrive_waits executes wanted said ∷ []
arrival wanted comes_not = []

-- the events of a round until the replies are received
abbrev pub until_replied : Settings → Wait → Meantime → List (Event Fields)
until_replied s w m = Plain (Send s.batch) ∷ (m.earlier ++ (arrival w.replicas m.fate ++ m.later))

-- a confirmed round
abbrev pub round_events : Settings → Wait → Meantime → List (Event Fields)
round_events s w m = until_replied s w m ++ Plain Hear ∷ []

-- what arrived was confirmed by this number of replicas
abbrev pub IsSaid : Fate → ℕ → Type 0
IsSaid (comes executes said) n = said ≡ n
IsSaid comes_not n = Unit {0}

-- the reply to WAIT is the one that the server sent; and if no command was sent, none arrives
abbrev pub HearsTheWait : (w : Wait) (a : Asked) (old new : Link) → Fate → Confirms (Some w) a old new → Type 0
HearsTheWait w asked.Nothing old new fate c = fate ≡ comes_not
HearsTheWait w asked.LastId old new fate c = IsSaid fate c.0
HearsTheWait w asked.Records old new fate c = IsSaid fate c.0

module _ (setting : Setting Fields) (w : Wait) (s : Settings) (known : Option (List Fields)) (count : ℕ) where
  -- the premises of a confirmed round: it sends the next of the setting's records, and the replies, also that to WAIT,
  -- are those that this server sent
  pub record IsServed (old new : Link) (v x : Standing) (a : Asked) (m : Meantime) (world : World Fields)
      (r : IsConfirmedRound (Some w) s known count old new v x a) : Type 0 where
    pub records : SendsTheRecords setting s v r.round.asks.0
    pub reply : IsHeard (run setting (until_replied s w m) world).now.producer.answer
        (heard_last s.base count r.round.standing.coming r.round.link r.link r.round.standing x r.round.hears)
    pub wait : HearsTheWait w a r.link new m.fate r.confirms

  -- the premise of one that breaks off, if it sent anything
  abbrev pub IsSent : (old new : Link) (v : Standing) (e : ConfirmedError)
      → BreaksConfirmed (Some w) s known count old new v e → Type 0
  IsSent old new v (ends.Round e) b = IsSentOfTheRecords setting s known count old new v e b
  IsSent old new v (ends.Unconfirmed e) b = SendsTheRecords setting s v b.round.asks.0

-- the events of a round that breaks off: it sent nothing; or its commands have arrived, arrive later, or never
abbrev pub break_events : Settings → Wait → Meantime → ConfirmedError → List (Event Fields)
break_events s w m (ends.Round (causes.Request e)) = Plain Break ∷ []
break_events s w m e = until_replied s w m ++ Plain Break ∷ []

-- the moment of a crash or a failover
pub data Moment : Type 0 where
  -- between two rounds
  between : Moment
  -- in a round, after it sent its commands
  within : (m : Meantime) → Moment

-- the events of that round
abbrev pub events_until : Settings → Wait → Moment → List (Event Fields)
events_until s w between = []
events_until s w (within m) = until_replied s w m

-- the states of a producer with these settings, whose rounds are confirmed by this WAIT, after these events. At first
-- it knows nothing. Then others act, or a round is confirmed, or it breaks off, or the producer is started again,
-- or the server fails over, after which the producer goes on over another connection
pub data Runs (setting : Setting Fields) (w : Wait) : Settings → List (Event Fields) → Standing → Type 0 where
  begins : (s : Settings) → Runs setting w s [] idle
  rests : (s : Settings) (events others : List (Event Fields)) (v : Standing) → AreBesides others
      → Runs setting w s events v → Runs setting w s (events ++ others) v
  turns : (s : Settings) (events : List (Event Fields)) (known : Option (List Fields)) (count : ℕ) (old new : Link)
      (v x : Standing) (a : Asked) (m : Meantime) (r : IsConfirmedRound (Some w) s known count old new v x a)
      → IsServed setting w s known count old new v x a m (after setting events) r
      → Runs setting w s events v → Runs setting w s (events ++ round_events s w m) x
  breaks_off : (s : Settings) (events : List (Event Fields)) (known : Option (List Fields)) (count : ℕ)
      (old new : Link) (v : Standing) (e : ConfirmedError) (m : Meantime)
      (b : BreaksConfirmed (Some w) s known count old new v e) → IsSent setting w s known count old new v e b
      → Runs setting w s events v → Runs setting w s (events ++ break_events s w m e) idle
  starts : (s with_s : Settings) (events : List (Event Fields)) (v : Standing) (moment : Moment)
      → Runs setting w s events v → Runs setting w with_s (events ++ (events_until s w moment ++ Plain Break ∷ [])) idle
  fails_over : (s with_s : Settings) (events : List (Event Fields)) (v : Standing) (moment : Moment) (which : ℕ)
      → Runs setting w s events v
      → Runs setting w with_s (events ++ (events_until s w moment ++ Failover which ∷ Plain Break ∷ [])) idle

-- after each schedule the producer of the code is that of the model after these events
abbrev pub RunsAreEvents : Type 0
RunsAreEvents = (setting : Setting Fields) (w : Wait) (s : Settings) (events : List (Event Fields)) (x : Standing)
    → Runs setting w s events x → IsProducer x (after setting events).now.producer

-- each of its batches arrives with a WAIT
abbrev pub RunsWait : Type 0
RunsWait = (setting : Setting Fields) (w : Wait) (s : Settings) (events : List (Event Fields)) (x : Standing)
    → Runs setting w s events x → ProducerAlwaysWaits events

-- as many records as it counts as added are in the log, and stay there whatever happens, failovers too, if no other
-- client adds and each producer sends WAIT
abbrev pub CodeKnowsWhatStays : Type 0
CodeKnowsWhatStays = (setting : Setting Fields) → Fit setting → (w : Wait) (s : Settings)
    (events more : List (Event Fields)) (x : Standing) → Runs setting w s events x
    → NoOtherAdds events → NoOtherAdds more → ProducerAlwaysWaits more
    → known_in x.stage ≤ length (log (run setting more (after setting events)).now)

-- if a round sends nothing, the log is all records, and stays so
abbrev pub AskingNothingStaysAll : Type 0
AskingNothingStaysAll = (setting : Setting Fields) → Fit setting → (w : Wait) (s : Settings) → 0 < s.batch
    → (events more : List (Event Fields)) (known : Option (List Fields)) (count : ℕ) (old new : Link) (v x : Standing)
    (r : IsConfirmedRound (Some w) s known count old new v x asked.Nothing)
    → SendsTheRecords setting s v r.round.asks.0
    → Runs setting w s events v → NoOtherAdds events → NoOtherAdds more → ProducerAlwaysWaits more
    → log (run setting more (after setting events)).now ≡ entries setting.base setting.records
