-- A producer's code is the producer of `model_server::once`. Its rounds, those that break off, and its starts are events of
-- that model.
use Rattle.std.specs.Prelude.{◌≡◌, ◌≤◌, ◌<◌, ℕ, zero, suc, Bool, List, [], ◌∷◌, ◌++◌, length, Option, Some, None}
use Rattle.std.specs.Prelude.{string_bytes}
use Rattle.redis_connection.specs.Link.{Link}
use Rattle.model_server.specs.Group.Group.{ids_of}
use Rattle.model_server.specs.Once.Feed.{Answer, Request, ask_last, batch, entries, known_in}
use Rattle.model_server.specs.Once.Law.{Fit, Once, NoOtherAdds, AreFirst, after, log}
use Rattle.model_server.specs.Once.Producer.{Producer}
use Rattle.model_server.specs.Once.World.{Setting, World, Event, Send, Arrive, Hear, Break}
use Rattle.model_server.specs.Once.World.{happens, run}
use Rattle.worker_producer.specs.Machine.{Standing, Asks, idle, next_batch}
use Rattle.worker_producer.specs.Records.{Fields}
use Rattle.worker_producer.specs.Replies.{heard}
use Rattle.worker_producer.specs.Sentences.{ask_bytes, batch_bytes, head_of}
use Rattle.worker_producer.specs.Session.{Hears, IsRound, Breaks, Rounds, Finished, Broke}
use Rattle.worker_producer.specs.declared.error.RunError.{RunError}
use Rattle.worker_producer.specs.declared.error.RunError.TheVariants as causes
use Rattle.worker_producer.specs.declared.settings.Settings.{Settings}
use Rattle.worker_producer.specs.declared.stage.Asked.{Asked}
use Rattle.worker_producer.specs.declared.stage.Asked.TheVariants as asked

-- between two rounds a producer of the code is this one of the model, with nothing on the way to it or from it
pub record IsProducer (x : Standing) (p : Producer Fields) : Type 0 where
  pub stage : p.stage ≡ x.stage
  pub coming : x.coming ≡ 0
  pub sent : p.sent ≡ None
  pub answer : p.answer ≡ None

-- the event is the consumer's, or one of the stream and of others, or a late request of a broken connection: it is not
-- one of the producer's connection
abbrev pub IsOfOthers : Event Fields → Type 0
IsOfOthers (Send count) = ⊥
IsOfOthers (Arrive executes) = ⊥
IsOfOthers Hear = ⊥
IsOfOthers Break = ⊥
IsOfOthers event = Unit {0}

-- each of these is such an event
abbrev pub AreOfOthers : List (Event Fields) → Type 0
AreOfOthers [] = Unit {0}
AreOfOthers (e ∷ es) = IsOfOthers e × AreOfOthers es

-- ---- a round

-- the fate of a round's commands
pub data Fate : Type 0 where
  -- they reach the server in this round, which executes them, or refuses all of them
  comes : (executes : Bool) → Fate
  -- they arrive later, or never
  comes_not : Fate

-- the events of others in a round, and the fate of its commands
pub record Meantime : Type 0 where
  pub earlier : List (Event Fields)  -- after it sent its commands, before they arrive at the server
  pub fate : Fate
  pub later : List (Event Fields)  -- after that, before the producer takes the last reply
  pub earlier_others : AreOfOthers earlier
  pub later_others : AreOfOthers later

-- the commands reach the server
abbrev pub arrival : Fate → List (Event Fields)
arrival (comes executes) = Arrive executes ∷ []
arrival comes_not = []

-- the events of a round until the last reply is received
abbrev pub until_replied : Settings → Meantime → List (Event Fields)
until_replied s m = Send s.batch ∷ (m.earlier ++ (arrival m.fate ++ m.later))

-- a round that returns Ok
abbrev pub round_events : Settings → Meantime → List (Event Fields)
round_events s m = until_replied s m ++ Hear ∷ []

-- the first premise: the ids begin at the setting's base, and the batch is the next of the setting's records. It is
-- assumed of a source whose records no contract gives
pub record SendsTheRecords (setting : Setting Fields) (s : Settings) (v : Standing) (all : List Fields) : Type 0 where
  pub base : setting.base ≡ s.base
  pub batch : next_batch s all v.stage ≡ next_batch s setting.records v.stage

-- a producer receives the reply sent to it, or nothing that it can use
abbrev pub IsHeard : Option Answer → Option Answer → Type 0
IsHeard sent None = Unit {0}
IsHeard sent (Some answer) = sent ≡ Some answer

module _ (base count : ℕ) where
  -- the content of the last of these replies, which comes after those that are `QUEUED`
  abbrev pub heard_last : (n : ℕ) (old new : Link) (w x : Standing) → Hears base count n old new w x → Option Answer
  heard_last zero old new w x h = None
  heard_last (suc n) old new w x h = heard h.1.stage h.2

module _ (setting : Setting Fields) (s : Settings) (known : Option (List Fields)) (count : ℕ) (old new : Link)
    (v x : Standing) (a : Asked) (m : Meantime) (w : World Fields) where
  -- the second premise: the last reply is the one that this server sent to the commands. It is assumed of the server,
  -- and of a producer that has one connection at a time
  abbrev pub HearsTheReply : IsRound s known count old new v x a → Type 0
  HearsTheReply r = IsHeard (run setting (until_replied s m) w).producer.answer
      (heard_last s.base count r.standing.coming r.link new r.standing x r.hears)

  -- both premises of a round
  abbrev pub IsServed : IsRound s known count old new v x a → Type 0
  IsServed r = SendsTheRecords setting s v r.asks.0 × HearsTheReply r

-- after a round of the code that returns Ok, the producer is that of the model after these events
abbrev pub RoundsAreEvents : Type 0
RoundsAreEvents = (setting : Setting Fields) (s : Settings) (known : Option (List Fields)) (count : ℕ) (old new : Link)
    (v x : Standing) (a : Asked) (m : Meantime) (w : World Fields) (r : IsRound s known count old new v x a)
    → IsProducer v w.producer → IsServed setting s known count old new v x a m w r
    → IsProducer x (run setting (round_events s m) w).producer

-- the bytes of the commands on the way to the server
abbrev pub sent_bytes : Settings → Option (Request Fields) → List ℕ
sent_bytes s None = []
sent_bytes s (Some ask_last) = ask_bytes (string_bytes s.key)
sent_bytes s (Some (batch b)) = batch_bytes (head_of s) b

-- the bytes of a round are those of the model's commands
abbrev pub RoundsSendIt : Type 0
RoundsSendIt = (setting : Setting Fields) (s : Settings) (known : Option (List Fields)) (bytes : List ℕ) (v y : Standing)
    (a : Asked) (w : World Fields) (q : Asks s known [] bytes v y a) → IsProducer v w.producer
    → SendsTheRecords setting s v q.0
    → bytes ≡ sent_bytes s (happens setting w (Send s.batch)).producer.sent

-- the first premise holds for a source whose records are known
abbrev pub ToldRecordsAreSent : Type 0
ToldRecordsAreSent = (setting : Setting Fields) (s : Settings) (out more : List ℕ) (v y : Standing) (a : Asked)
    (q : Asks s (Some setting.records) out more v y a) → setting.base ≡ s.base → SendsTheRecords setting s v q.0

-- ---- a round that breaks off

-- the events: it sent nothing; or its commands have arrived, arrive later, or never
abbrev pub break_events : Settings → Meantime → RunError → List (Event Fields)
break_events s m (causes.Request e) = Break ∷ []
break_events s m e = until_replied s m ++ Break ∷ []

module _ (setting : Setting Fields) (s : Settings) (known : Option (List Fields)) (count : ℕ) (old new : Link)
    (v : Standing) where
  -- the first premise, if it sent anything
  abbrev pub IsSentOfTheRecords : (e : RunError) → Breaks s known count old new v e → Type 0
  IsSentOfTheRecords (causes.Request e) b = Unit {0}
  IsSentOfTheRecords (causes.Send e) b = SendsTheRecords setting s v b.asks.0
  IsSentOfTheRecords (causes.Receive e) b = SendsTheRecords setting s v b.asks.0
  IsSentOfTheRecords (causes.Answer e) b = SendsTheRecords setting s v b.asks.0

-- after it the producer is idle, and is that of the model after these events
abbrev pub BreaksAreEvents : Type 0
BreaksAreEvents = (setting : Setting Fields) (s : Settings) (known : Option (List Fields)) (count : ℕ) (old new : Link)
    (v : Standing) (e : RunError) (m : Meantime) (w : World Fields) (b : Breaks s known count old new v e)
    → IsProducer v w.producer → IsSentOfTheRecords setting s known count old new v e b
    → IsProducer idle (run setting (break_events s m e) w).producer

-- ---- a crash and a start

-- when a crash comes. A contract holds only of calls that return, so these moments are a premise
pub data Moment : Type 0 where
  -- between two rounds, or before anything was sent
  between : Moment
  -- in a round, after it sent its commands
  within : (m : Meantime) → Moment

-- the events of that round
abbrev pub events_until : Settings → Moment → List (Event Fields)
events_until s between = []
events_until s (within m) = until_replied s m

-- the crash, and a start that knows nothing; or a connection is closed, and `disconnected` is called
abbrev pub start_events : Settings → Moment → List (Event Fields)
start_events s moment = events_until s moment ++ Break ∷ []

-- after them the producer is idle, and is that of the model
abbrev pub StartsAreEvents : Type 0
StartsAreEvents = (setting : Setting Fields) (s : Settings) (v : Standing) (moment : Moment) (w : World Fields)
    → IsProducer v w.producer → IsProducer idle (run setting (start_events s moment) w).producer

-- ---- a schedule

-- the states of a producer with these settings after these events of the model. At first it knows nothing. Then others
-- act, or it makes a round, or a round of it breaks off, or it is started again, with any settings
pub data Runs (setting : Setting Fields) : Settings → List (Event Fields) → Standing → Type 0 where
  begins : (s : Settings) → Runs setting s [] idle
  rests : (s : Settings) (events others : List (Event Fields)) (v : Standing) → AreOfOthers others
      → Runs setting s events v → Runs setting s (events ++ others) v
  turns : (s : Settings) (events : List (Event Fields)) (known : Option (List Fields)) (count : ℕ) (old new : Link)
      (v x : Standing) (a : Asked) (m : Meantime) (r : IsRound s known count old new v x a)
      → IsServed setting s known count old new v x a m (after setting events) r
      → Runs setting s events v → Runs setting s (events ++ round_events s m) x
  breaks_off : (s : Settings) (events : List (Event Fields)) (known : Option (List Fields)) (count : ℕ) (old new : Link)
      (v : Standing) (e : RunError) (m : Meantime) (b : Breaks s known count old new v e)
      → IsSentOfTheRecords setting s known count old new v e b
      → Runs setting s events v → Runs setting s (events ++ break_events s m e) idle
  starts : (s with_s : Settings) (events : List (Event Fields)) (v : Standing) (moment : Moment)
      → Runs setting s events v → Runs setting with_s (events ++ start_events s moment) idle

-- after each schedule the producer of the code is that of the model after these events
abbrev pub RunsAreEvents : Type 0
RunsAreEvents = (setting : Setting Fields) (s : Settings) (events : List (Event Fields)) (x : Standing)
    → Runs setting s events x → IsProducer x (after setting events).producer

-- ---- a session

-- the events of this number of rounds
abbrev pub session_events : Settings → (ℕ → Meantime) → ℕ → List (Event Fields)
session_events s ms zero = []
session_events s ms (suc n) = session_events s ms n ++ round_events s (ms n)

module _ (setting : Setting Fields) (s : Settings) (known : Option (List Fields)) (count : ℕ) (ms : ℕ → Meantime)
    (events : List (Event Fields)) where
  -- the premises of a round after this number of others
  abbrev pub IsServedAfter : (n : ℕ) (old new : Link) (v x : Standing) (a : Asked)
      → IsRound s known count old new v x a → Type 0
  IsServedAfter n old new v x a r =
      IsServed setting s known count old new v x a (ms n) (after setting (events ++ session_events s ms n)) r

  -- the premises of each of this number of rounds
  abbrev pub EachIsServed : (n : ℕ) (old new : Link) (v x : Standing) → Rounds s known count n old new v x → Type 0
  EachIsServed zero old new v x r = Unit {0}
  EachIsServed (suc n) old new v x r =
      EachIsServed n old r.0 v r.1 r.3 × IsServedAfter n r.0 new r.1 x r.2 r.4

-- the rounds of a session are such rounds, one after the other
abbrev pub SessionsRun : Type 0
SessionsRun = (setting : Setting Fields) (s : Settings) (known : Option (List Fields)) (count : ℕ) (ms : ℕ → Meantime)
    (events : List (Event Fields)) (n : ℕ) (old new : Link) (v x : Standing) (r : Rounds s known count n old new v x)
    → EachIsServed setting s known count ms events n old new v x r
    → Runs setting s events v → Runs setting s (events ++ session_events s ms n) x

-- and one that breaks off is such rounds and a break
abbrev pub BrokenSessionsRun : Type 0
BrokenSessionsRun = (setting : Setting Fields) (s : Settings) (known : Option (List Fields)) (count : ℕ)
    (ms : ℕ → Meantime) (events : List (Event Fields)) (old new : Link) (e : RunError)
    (b : Broke s known count old new e)
    → EachIsServed setting s known count ms events b.count_of old b.link idle b.standing b.rounds
    → IsSentOfTheRecords setting s known count b.link new b.standing e b.breaks
    → Runs setting s events idle
    → Runs setting s ((events ++ session_events s ms b.count_of) ++ break_events s (ms b.count_of) e) idle

-- ---- what holds after each schedule

-- the log is the first of the records, in order, with their own fields, if no other client adds
abbrev pub CodeAddsFirstRecords : Type 0
CodeAddsFirstRecords = (setting : Setting Fields) → Fit setting → (s : Settings) (events : List (Event Fields))
    (x : Standing) → Runs setting s events x → NoOtherAdds events
    → AreFirst (log (after setting events)) (entries setting.base setting.records)

-- no id is twice in the log, whoever adds to it
abbrev pub CodeAddsOnce : Type 0
CodeAddsOnce = (setting : Setting Fields) (s : Settings) (events : List (Event Fields)) (x : Standing)
    → Runs setting s events x → Once (ids_of (log (after setting events)))

-- as many records as the code counts as added are in the log, if no other client adds
abbrev pub CodeKnowsWhatIsIn : Type 0
CodeKnowsWhatIsIn = (setting : Setting Fields) → Fit setting → (s : Settings) (events : List (Event Fields))
    (x : Standing) → Runs setting s events x → NoOtherAdds events
    → known_in x.stage ≤ length (log (after setting events))

-- if a round sends nothing, the log is all records, if no other client adds
abbrev pub AskingNothingIsAll : Type 0
AskingNothingIsAll = (setting : Setting Fields) → Fit setting → (s : Settings) → 0 < s.batch
    → (events : List (Event Fields)) (known : Option (List Fields)) (count : ℕ) (old new : Link) (v x : Standing)
    (r : IsRound s known count old new v x asked.Nothing) → SendsTheRecords setting s v r.asks.0
    → Runs setting s events v → NoOtherAdds events
    → log (after setting events) ≡ entries setting.base setting.records

-- the same for a session whose last round sends nothing
abbrev pub FinishedIsAll : Type 0
FinishedIsAll = (setting : Setting Fields) → Fit setting → (s : Settings) → 0 < s.batch
    → (known : Option (List Fields)) (count : ℕ) (ms : ℕ → Meantime) (events : List (Event Fields)) (old new : Link)
    (f : Finished s known count old new)
    → EachIsServed setting s known count ms events f.count_of old f.link idle f.standing f.rounds
    → SendsTheRecords setting s f.standing f.last.asks.0
    → Runs setting s events idle → NoOtherAdds (events ++ session_events s ms f.count_of)
    → log (after setting (events ++ session_events s ms f.count_of)) ≡ entries setting.base setting.records
