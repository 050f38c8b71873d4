-- The code of a worker with its file is the consumer of `model_server::once`. Its rounds, failures and starts are events of
-- that model.
use Rattle.std.specs.Prelude.{◌≡◌, ◌≤◌, ◌⊎◌, ℕ, ◌-◌, List, [], ◌∷◌, ◌++◌, take, Bool, Option, Some, None}
use Rattle.std.specs.Prelude.{if◌then◌else◌}
use mathlib.Core.Logic.{inl, inr}
use Rattle.redis_connection.specs.Link.{Link}
use Rattle.redis_resp.specs.Tree.{Tree}
use Rattle.redis_wire.specs.Reply as wire
use Rattle.model_server.specs.Group.Worker.{Id, Entry, Verdict, Machine, Answer, acknowledged, Phase}
use Rattle.model_server.specs.Group.Group.{Name, ids_of, pending_ids}
use Rattle.model_server.specs.Group.World as group
use Rattle.model_server.specs.Group.Law.{Among}
use Rattle.model_server.specs.Once.Consumer.{Consumer, answer_for, last_added, last_lines}
use Rattle.model_server.specs.Once.Feed.{entries}
use Rattle.model_server.specs.Once.Law.{Fit, Once, NoOtherAdds, NoOtherAcks, IsDone, IsDrained, AreFirst, after, log}
use Rattle.model_server.specs.Once.Order.{AllInOrder}
use Rattle.model_server.specs.Once.Within.{AllWithin}
use Rattle.model_server.specs.Once.World.{Setting, World, Event, Send, Arrive, Arrive_late, Hear, Break, Ask, Take, Sync}
use Rattle.model_server.specs.Once.World.{Acknowledge_now, Acknowledge_later, Reconnect, Restart, Else, first_world, run}
use Rattle.model_workers.specs.Files.Files.{Fields}
use Rattle.worker.specs.Answered.{Failed, WasCut}
use Rattle.worker.specs.Answers.{Heard, told, no_group, group_made, hears}
use Rattle.worker.specs.Gathered.{Doings, done_too, committed_too}
use Rattle.worker.specs.Life.{done_before}
use Rattle.worker.specs.Machine.{commits, at_request}
use Rattle.worker.specs.Questions.{count_asked}
use Rattle.worker.specs.Session.{Standing, standing_of, Turn, Turned, Fails, Rounds, asking}
use Rattle.worker.specs.Session.{EndsBy, after_turn}
use Rattle.worker.specs.declared.error.RequestError.{RequestError}
use Rattle.worker.specs.declared.error.RequestError.TheVariants.{NotCommitted, TooLong, Memory}
use Rattle.worker.specs.declared.error.RunError.{RunError}
use Rattle.worker.specs.declared.error.RunError.TheVariants as causes
use Rattle.worker.specs.declared.error.WorkerError.{WorkerError}
use Rattle.worker.specs.declared.error.WorkerError.TheVariants as faults
use Rattle.worker.specs.declared.state.Asked.{Asked}
use Rattle.worker.specs.declared.state.Settings.{Settings}
use Rattle.worker.specs.declared.worker.Progress.{Progress}
use Rattle.worker.specs.declared.worker.Worker.{Worker}
use Rattle.model_workers.specs.System.Rounds.{IsStarted}

-- between two rounds the worker `v` is the consumer `c`. The entries that are done and not committed are the
-- lines of `c`, and the committed entries are the file of `c`
pub record IsConsumer (v : Standing Doings) (c : Consumer Fields) : Type 0 where
  pub machine : c.machine ≡ v.machine
  pub answer : c.answer ≡ None
  pub lines : c.lines ≡ v.history.loose
  pub file : c.file ≡ v.history.committed

-- the event is of the producer, of the stream or of other clients, and not of this consumer
abbrev pub IsOfOthers : Event Fields → Type 0
IsOfOthers (Send count) = Unit {0}
IsOfOthers (Arrive executes) = Unit {0}
IsOfOthers (Arrive_late which executes) = Unit {0}
IsOfOthers Hear = Unit {0}
IsOfOthers Break = Unit {0}
IsOfOthers (Else event) = Unit {0}
IsOfOthers event = ⊥

-- `IsOfOthers` holds for each event
abbrev pub AreOfOthers : List (Event Fields) → Type 0
AreOfOthers [] = Unit {0}
AreOfOthers (e ∷ es) = IsOfOthers e × AreOfOthers es

-- ---- a round

-- the outcome of the request of a round
pub data Fate : Type 0 where
  -- the request arrives at the server in this round. `pick` says which pending entries the server returns, and
  -- `next` is the id from which the next claim continues
  comes : (pick : Id → Bool) (next : Id) → Fate
  -- the server refuses the request, or the request arrives later or never. A late request for entries is an
  -- event of others
  comes_not : Fate

-- what others do in a round, and the outcome of its request
pub record Meantime : Type 0 where
  pub earlier : List (Event Fields)  -- after the commit, before the request arrives at the server
  pub fate : Fate
  pub later : List (Event Fields)  -- after that, before the worker gets the reply
  pub earlier_others : AreOfOthers earlier
  pub later_others : AreOfOthers later

-- the commit of a worker before its request, if it commits
abbrev pub committing : Machine → List (Event Fields)
committing m = if commits m then Sync ∷ [] else []

-- the request of a round, with COUNT `n`: an XACK of `to_acknowledge`, or a request for entries if there are no
-- such ids
abbrev pub question_events : ℕ → Fate → (to_acknowledge : List Id) → List (Event Fields)
question_events n (comes pick next) [] = Ask n pick next ∷ []
question_events n (comes pick next) (i ∷ ids) = Acknowledge_now ∷ []
question_events n comes_not [] = []
question_events n comes_not (i ∷ ids) = Acknowledge_later ∷ []

-- the reply of the server to the request, if the request arrives and `stream` is the stream
abbrev pub reply_to : Name → ℕ → Fate → (to_acknowledge : List Id) → Phase → group.World Fields
    → Option (Answer Fields)
reply_to name n (comes pick next) [] phase stream = Some (answer_for name n pick next phase stream)
reply_to name n (comes pick next) (i ∷ ids) phase stream = Some acknowledged
reply_to name n comes_not ids phase stream = None

-- the worker gets the reply that was sent to it. If no reply was sent, it learns only about the group, or gets
-- nothing usable
abbrev pub IsHeard : Option (Answer Fields) → Option Heard → Type 0
IsHeard sent None = Unit {0}
IsHeard sent (Some (told answer)) = sent ≡ Some answer
IsHeard sent (Some no_group) = sent ≡ None
IsHeard sent (Some group_made) = sent ≡ None

module _ (settings : Settings) (v : Standing Doings) (m : Meantime) where
  -- the number after COUNT in its request, if it requests entries
  abbrev pub count : ℕ
  count = count_asked settings (at_request v.machine).phase

  -- the events of a round until its request arrives at the server
  abbrev pub until_asked : List (Event Fields)
  until_asked = committing v.machine ++ m.earlier

  -- the events of a round until the worker has a reply
  abbrev pub until_replied : List (Event Fields)
  until_replied =
      until_asked ++ (question_events count m.fate (at_request v.machine).to_acknowledge ++ m.later)

  -- the events of a round that returns `Ok`. The handler returns `verdicts` for the entries
  abbrev pub round_events : List Verdict → List (Event Fields)
  round_events verdicts = until_replied ++ Take verdicts ∷ []

  -- the reply of the server, if `w` is the world at the start of the round
  abbrev pub reply_in : Setting Fields → World Fields → Option (Answer Fields)
  reply_in s w = reply_to s.name count m.fate (at_request v.machine).to_acknowledge
      (at_request v.machine).phase (run s until_asked w).stream

  -- the premise: the worker gets the reply of this server to its last request. This is assumed of the server,
  -- and of a worker that has one connection at a time
  abbrev pub HearsTheAnswer : Setting Fields → World Fields → wire.Answer → Type 0
  HearsTheAnswer s w reply = IsHeard (reply_in s w) (hears settings (asking committed_too settings v).asked reply)

-- the law: after a round that returns `Ok`, the worker is the consumer after the events of that round
abbrev pub RoundsAreEvents : Type 0
RoundsAreEvents = (s : Setting Fields) (w : World Fields) (settings : Settings) (old new : Link)
    (v x : Standing Doings) (asked : Asked) (p : Progress) (m : Meantime)
    (t : Turned done_too committed_too settings old new v x asked p)
    → IsConsumer v w.consumer → HearsTheAnswer settings v m s w t.turn.answer
    → IsConsumer x (run s (round_events settings v m t.turn.verdicts) w).consumer

-- ---- a round that fails

-- the events of a round that sent no request. The worker may have committed
abbrev pub unasked_events : Machine → RequestError → List (Event Fields)
unasked_events m NotCommitted = []
unasked_events m TooLong = committing m
unasked_events m Memory = committing m

-- the events of a reply during which memory ran out. The handler may have handled some entries before that
abbrev pub cut_by : {A : Type 0} {settings : Settings} {asked : Asked} {t : Tree} {m n : Machine} {r s : Doings}
    → A ⊎ WasCut done_too settings asked t m n r s → List (Event Fields)
cut_by (inl none) = []
cut_by (inr some) = Take some.took.verdicts ∷ []

module _ (settings : Settings) (asked : Asked) (a : wire.Answer) (m n : Machine) (r s : Doings) where
  -- the events of a reply that is an error to the worker
  abbrev pub handled_of : (e : WorkerError) → Failed done_too settings asked a m n r s e → List (Event Fields)
  handled_of faults.Memory f = cut_by f.2
  handled_of e f = []

module _ (settings : Settings) (old new : Link) (v x : Standing Doings) (m : Meantime) where
  -- the events of a round that fails. The worker sent no request, or used nothing or only a part of the reply.
  -- After a request it starts over
  abbrev pub failure_events : (e : RunError) → Fails done_too committed_too settings old new v x e → List (Event Fields)
  failure_events (causes.Request e) f = unasked_events v.machine e
  failure_events (causes.Send e) f = until_replied settings v m ++ Reconnect ∷ []
  failure_events (causes.Receive named e) f = until_replied settings v m ++ Reconnect ∷ []
  failure_events (causes.Answer e) f =
      let u : Standing Doings = asking committed_too settings v in
      until_replied settings v m
      ++ (handled_of settings u.asked f.1.0 u.machine f.0.machine u.history f.0.history e.error f.1.2 ++ Reconnect ∷ [])

  -- the premise of `HearsTheAnswer` for a round that fails, if a reply arrived
  abbrev pub FailsHearing : Setting Fields → World Fields → (e : RunError)
      → Fails done_too committed_too settings old new v x e → Type 0
  FailsHearing s w (causes.Request e) f = Unit {0}
  FailsHearing s w (causes.Send e) f = Unit {0}
  FailsHearing s w (causes.Receive named e) f = Unit {0}
  FailsHearing s w (causes.Answer e) f = HearsTheAnswer settings v m s w f.1.0

-- the law: after a round that fails, the worker is the consumer after the events of that round
abbrev pub FailuresAreEvents : Type 0
FailuresAreEvents = (s : Setting Fields) (w : World Fields) (settings : Settings) (old new : Link)
    (v x : Standing Doings) (e : RunError) (m : Meantime)
    (f : Fails done_too committed_too settings old new v x e)
    → IsConsumer v w.consumer → FailsHearing settings old new v x m s w e f
    → IsConsumer x (run s (failure_events settings old new v x m e f) w).consumer

-- ---- a crash and a start

-- the moment of a crash. No contract describes a call that does not return, so these moments are a premise
pub data Moment : Type 0 where
  -- the worker crashes between two rounds, or before the end of a commit
  between : Moment
  -- the worker crashes in a round, after its commit and before the round returns
  within : (m : Meantime) → Moment

-- the events of the round before a crash at this moment
abbrev pub events_until : Settings → Standing Doings → Moment → List (Event Fields)
events_until settings v between = []
events_until settings v (within m) = until_replied settings v m

-- the state of the worker and its handler at this moment
abbrev pub standing_at : Settings → Standing Doings → Moment → Standing Doings
standing_at settings v between = v
standing_at settings v (within m) = asking committed_too settings v

-- the entries whose lines a crash leaves in the file: all committed ones. If the crash interrupted a commit,
-- the first `kept` of the others are there too
abbrev pub file_left : Standing Doings → (kept : ℕ) → List (Entry Fields)
file_left v kept = v.history.committed ++ take kept v.history.loose

-- how many of the entries that a crash leaves in the file were added by the last commit
abbrev pub added_last : World Fields → Standing Doings → (kept : ℕ) → ℕ
added_last w v kept = last_added w.consumer.last_commit (take kept v.history.loose)

-- a worker is started with the settings `settings`. It begins to acknowledge the ids of the last `number` lines
-- of its file, which include the lines of the last commit. Its handler has the entries of the file as committed
pub record StartsOver (settings : Settings) (w : World Fields) (v x : Standing Doings) : Type 0 where
  pub kept : ℕ
  pub number : ℕ
  pub worker : Worker
  pub enough : added_last w v kept ≤ number
  pub started : IsStarted settings (ids_of (last_lines number (file_left v kept))) worker
  pub stands : x ≡ standing_of worker (done_before (file_left v kept))

-- the event of the crash and the start
abbrev pub start_events : (settings : Settings) (w : World Fields) (v x : Standing Doings)
    → StartsOver settings w v x → List (Event Fields)
start_events settings w v x t = Restart settings.every t.kept (t.number - added_last w v t.kept) ∷ []

module _ (s : Setting Fields) (settings with_settings : Settings) (w : World Fields) (v x : Standing Doings)
    (moment : Moment) where
  -- a crash at this moment, and a start with these settings
  abbrev pub StartsAt : Type 0
  StartsAt = StartsOver with_settings (run s (events_until settings v moment) w) (standing_at settings v moment) x

  abbrev pub restart_events : StartsAt → List (Event Fields)
  restart_events t = events_until settings v moment
      ++ start_events with_settings (run s (events_until settings v moment) w) (standing_at settings v moment) x t

-- the law: after a crash and a start the worker is the consumer after these events
abbrev pub StartsAreEvents : Type 0
StartsAreEvents = (s : Setting Fields) (w : World Fields) (settings with_settings : Settings) (v x : Standing Doings)
    (moment : Moment) (t : StartsAt s settings with_settings w v x moment) → IsConsumer v w.consumer
    → IsConsumer x (run s (restart_events s settings with_settings w v x moment t) w).consumer

-- ---- a schedule

-- a worker with these settings may be in this state after these events of the model. The worker is first
-- started over an empty file. Then others act, a round is made, a round fails, or the worker crashes and is
-- started again
pub data Runs (s : Setting Fields) : Settings → List (Event Fields) → Standing Doings → Type 0 where
  begins : (settings : Settings) (worker : Worker) → IsStarted settings [] worker
      → Runs s settings (Restart settings.every 0 0 ∷ []) (standing_of worker (done_before []))
  waits : (settings : Settings) (events others : List (Event Fields)) (v : Standing Doings) → AreOfOthers others
      → Runs s settings events v → Runs s settings (events ++ others) v
  turns : (settings : Settings) (events : List (Event Fields)) (v : Standing Doings) (m : Meantime) (t : Turn)
      (p : Progress) → EndsBy (hears settings (asking committed_too settings v).asked t.answer) t.verdicts p
      → HearsTheAnswer settings v m s (after s events) t.answer → Runs s settings events v
      → Runs s settings (events ++ round_events settings v m t.verdicts)
      (after_turn done_too committed_too settings v t)
  fails : (settings : Settings) (events : List (Event Fields)) (old new : Link) (v x : Standing Doings)
      (e : RunError) (m : Meantime) (f : Fails done_too committed_too settings old new v x e)
      → FailsHearing settings old new v x m s (after s events) e f
      → Runs s settings events v → Runs s settings (events ++ failure_events settings old new v x m e f) x
  restarts : (settings with_settings : Settings) (events : List (Event Fields)) (v x : Standing Doings)
      (moment : Moment) (t : StartsAt s settings with_settings (after s events) v x moment) → Runs s settings events v
      → Runs s with_settings (events ++ restart_events s settings with_settings (after s events) v x moment t) x

-- the law: a round that returns `Ok` is a round of `Runs`. `Worker::round` makes one, and
-- `Worker::round_pipelined` one or two
abbrev pub RoundsRun : Type 0
RoundsRun = (s : Setting Fields) (settings : Settings) (events : List (Event Fields)) (old new : Link)
    (v x : Standing Doings) (asked : Asked) (p : Progress) (m : Meantime)
    (t : Turned done_too committed_too settings old new v x asked p)
    → HearsTheAnswer settings v m s (after s events) t.turn.answer
    → Runs s settings events v → Runs s settings (events ++ round_events settings v m t.turn.verdicts) x

module _ (s : Setting Fields) (settings : Settings) where
  -- the premise: in each of these turns the worker gets the reply of this server
  abbrev pub HearsEach : List (Event Fields) → Standing Doings → List Turn → List Meantime → Type 0
  HearsEach events v [] ms = Unit {0}
  HearsEach events v (t ∷ ts) [] = ⊥
  HearsEach events v (t ∷ ts) (m ∷ ms) = HearsTheAnswer settings v m s (after s events) t.answer
      × HearsEach (events ++ round_events settings v m t.verdicts) (after_turn done_too committed_too settings v t)
      ts ms

  -- the events of these turns, in order
  abbrev pub session_events : Standing Doings → List Turn → List Meantime → List (Event Fields)
  session_events v [] ms = []
  session_events v (t ∷ ts) [] = []
  session_events v (t ∷ ts) (m ∷ ms) = round_events settings v m t.verdicts
      ++ session_events (after_turn done_too committed_too settings v t) ts ms

-- the law: the rounds of `Worker::run` are rounds of `Runs`, in order
abbrev pub SessionsRun : Type 0
SessionsRun = (s : Setting Fields) (settings : Settings) (events : List (Event Fields)) (old new : Link)
    (v x : Standing Doings) (n : ℕ) (p : Progress) (r : Rounds done_too committed_too settings old new v x n p)
    (ms : List Meantime) → HearsEach s settings events v r.turns ms
    → Runs s settings events v → Runs s settings (events ++ session_events s settings v r.turns ms) x

-- the law: after each schedule the worker is the consumer of the model after the events of the schedule
abbrev pub RunsAreEvents : Type 0
RunsAreEvents = (s : Setting Fields) (settings : Settings) (events : List (Event Fields)) (v : Standing Doings)
    → Runs s settings events v → IsConsumer v (after s events).consumer

-- the law: a start reads back enough lines, if no reply ever had more than `number` entries
abbrev pub StartsReadEnough : Type 0
StartsReadEnough = (s : Setting Fields) (settings : Settings) (events : List (Event Fields)) (v : Standing Doings)
    → Runs s settings events v → (moment : Moment) (number : ℕ)
    → AllWithin number s first_world (events ++ events_until settings v moment) → (kept : ℕ)
    → added_last (run s (events_until settings v moment) (after s events)) (standing_at settings v moment) kept ≤ number

-- the law: no id is twice in the file of the worker, whoever adds to the stream
abbrev pub CodeWritesOnce : Type 0
CodeWritesOnce = (s : Setting Fields) (settings : Settings) (events : List (Event Fields)) (v : Standing Doings)
    → Runs s settings events v → Once (ids_of v.history.committed)

-- the law: each entry of the file is in the log, with its own fields
abbrev pub CodeWritesTheLog : Type 0
CodeWritesTheLog = (s : Setting Fields) (settings : Settings) (events : List (Event Fields)) (v : Standing Doings)
    → Runs s settings events v → (e : Entry Fields)
    → Among e v.history.committed → Among e (log (after s events))

-- the law: each entry that was added is undelivered, pending, in the file, or deleted, if no other client
-- acknowledges
abbrev pub CodeKeepsEach : Type 0
CodeKeepsEach = (s : Setting Fields) (settings : Settings) (events : List (Event Fields)) (v : Standing Doings)
    → Runs s settings events v → NoOtherAcks events → (e : Entry Fields)
    → Among e (log (after s events))
    → Among e (after s events).stream.fresh
    ⊎ (Among e.0 (pending_ids (after s events).stream.pending)
    ⊎ (Among e v.history.committed ⊎ Among e.0 (after s events).stream.deleted))

-- the law: the file is a prefix of the log, if the worker reads all entries in order
abbrev pub CodeWritesInOrder : Type 0
CodeWritesInOrder = (s : Setting Fields) (settings : Settings) (events : List (Event Fields)) (v : Standing Doings)
    → Runs s settings events v → AllInOrder s first_world events
    → AreFirst v.history.committed (log (after s events))

-- the law: the file is the records, once the producer is done and the stream is drained. No other client adds
-- entries, and the worker reads all in order
abbrev pub CodeWritesTheRecords : Type 0
CodeWritesTheRecords = (s : Setting Fields) → Fit s → (settings : Settings) (events : List (Event Fields))
    (v : Standing Doings) → Runs s settings events v → NoOtherAdds events → AllInOrder s first_world events
    → IsDone s (after s events) → IsDrained (after s events)
    → v.history.committed ≡ entries s.base s.records
