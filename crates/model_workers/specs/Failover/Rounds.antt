-- The rounds of a worker that checks its file, as events of `model_server::failover`.
use Rattle.std.specs.Prelude.{◌≡◌, ◌≤◌, ◌⊎◌, ℕ, ◌-◌, List, [], ◌∷◌, ◌++◌, map, take, Bool, false, Option, Some, None}
use mathlib.Core.Logic.{inl, inr}
use Rattle.redis_connection.specs.Link.{Link}
use Rattle.redis_resp.specs.Tree.{Tree}
use Rattle.redis_wire.specs.Reply as wire
use Rattle.worker.specs.Confirm.Confirmed.{FailsConfirmed, IsConfirmedRound}
use Rattle.worker.specs.declared.confirm.error.RoundError.{RoundError}
use Rattle.worker.specs.declared.confirm.error.RoundError.TheVariants as ends
use Rattle.model_server.specs.Failover.World.{World, Event, Plain, Arrive_waits, Ask_waits, Failover, run}
use Rattle.redis_connection.specs.declared.wait.Wait.{Wait}
use Rattle.model_workers.specs.Files.Files.{Fields}
use Rattle.model_server.specs.Group.Group.{ids_of}
use Rattle.model_server.specs.Group.Worker.{Id, Entry, Machine, begins_again}
use Rattle.model_server.specs.Once.Consumer.{Consumer, last_added, last_lines}
use Rattle.model_server.specs.Once.World.{Setting, Ask, Take, Acknowledge_now, Acknowledge_later, Reconnect, Restart}
use Rattle.model_workers.specs.System.Once.{IsOfOthers, IsHeard, committing, unasked_events}
use Rattle.model_workers.specs.System.Rounds.{IsStarted}
use Rattle.worker.specs.Answered.{Failed, WasCut}
use Rattle.worker.specs.Answers.{hears}
use Rattle.worker.specs.Machine.{at_request}
use Rattle.worker.specs.Questions.{count_asked}
use Rattle.worker.specs.Session.{Standing, standing_of, Turn, Turned, Fails, asking}
use Rattle.worker.specs.declared.error.RunError.{RunError}
use Rattle.worker.specs.declared.error.RunError.TheVariants as causes
use Rattle.worker.specs.declared.error.WorkerError.{WorkerError}
use Rattle.worker.specs.declared.error.WorkerError.TheVariants as faults
use Rattle.worker.specs.declared.state.Asked.{Asked}
use Rattle.worker.specs.declared.state.Settings.{Settings}
use Rattle.worker.specs.declared.worker.Progress.{Progress}
use Rattle.worker.specs.declared.worker.Worker.{Worker}
use Rattle.model_workers.specs.Failover.Keeps.{Keeps}

-- between two rounds the worker `v` is the consumer `c`. The handler of `v` has the lines and the file of `c`
pub record IsConsumer {R : Type 0} (k : Keeps R) (v : Standing R) (c : Consumer Fields) : Type 0 where
  pub machine : c.machine ≡ v.machine
  pub answer : c.answer ≡ None
  pub history : v.history ≡ k.written c.lines c.file

-- the event is not of this consumer. If `calm`, the event is not a failover
abbrev pub IsBesides : (calm : Bool) → Event Fields → Type 0
IsBesides calm (Plain event) = IsOfOthers event
IsBesides calm (Arrive_waits executes asked said) = Unit {0}
IsBesides calm (Ask_waits n pick next asked said) = ⊥
IsBesides calm (Failover which) = calm ≡ false

-- `IsBesides` holds for each event
abbrev pub AreBesides : (calm : Bool) → List (Event Fields) → Type 0
AreBesides calm [] = Unit {0}
AreBesides calm (e ∷ es) = IsBesides calm e × AreBesides calm es

-- the outcome of the request of a round, and of the WAIT after it
pub data Fate : Type 0 where
  -- the request arrives at the server in this round. `pick` says which pending entries the server returns, and
  -- `next` is the id from which the next claim continues. `said` replicas confirm the request
  comes : (pick : Id → Bool) (next : Id) (said : ℕ) → Fate
  -- the server refuses the request, or the request arrives later or never. A late request for entries is an
  -- event of others
  comes_not : Fate

-- what others do in a round, and the outcome of its request. If `calm`, the server does not fail over
pub record Meantime (calm : Bool) : Type 0 where
  pub before : List (Event Fields)  -- before the commit
  pub earlier : List (Event Fields)  -- after that, before the request arrives at the server
  pub fate : Fate
  pub later : List (Event Fields)  -- after that, before the worker gets the reply
  pub before_besides : AreBesides calm before
  pub earlier_besides : AreBesides calm earlier
  pub later_besides : AreBesides calm later

-- a request for entries arrives at the server, with or without a WAIT after it
abbrev pub asks_with : Option Wait → ℕ → (Id → Bool) → Id → ℕ → Event Fields
asks_with None n pick next said = Plain (Ask n pick next)
asks_with (Some w) n pick next said = Ask_waits n pick next w.replicas said

-- the request of a round, with COUNT `n`: an XACK of `to_acknowledge`, or a request for entries if there are no
-- such ids
abbrev pub question_events : Option Wait → ℕ → Fate → (to_acknowledge : List Id) → List (Event Fields)
question_events wait n (comes pick next said) [] = asks_with wait n pick next said ∷ []
question_events wait n (comes pick next said) (i ∷ ids) = Plain Acknowledge_now ∷ []
question_events wait n comes_not [] = []
question_events wait n comes_not (i ∷ ids) = Plain Acknowledge_later ∷ []

-- `n` replicas confirm the request, if it arrives in this round
abbrev pub IsSaid : Fate → ℕ → Type 0
IsSaid (comes pick next said) n = said ≡ n
IsSaid comes_not n = Unit {0}

module _ {R : Type 0} (k : Keeps R) (wait : Option Wait) (settings : Settings) (v : Standing R) where
  -- the worker while it waits for the reply to its request
  abbrev pub now_asking : Standing R
  now_asking = asking k.with_commit settings v

  module _ {calm : Bool} (m : Meantime calm) where
    -- the events of a round until its request arrives at the server
    abbrev pub until_asked : List (Event Fields)
    until_asked = m.before ++ (map Plain (committing v.machine) ++ m.earlier)

    -- the request of the round, if it arrives at the server
    abbrev pub question : List (Event Fields)
    question = question_events wait (count_asked settings (at_request v.machine).phase) m.fate
        (at_request v.machine).to_acknowledge

    -- the events until the worker has a reply, or knows that none arrives
    abbrev pub until_replied : List (Event Fields)
    until_replied = until_asked ++ (question ++ m.later)

    -- the premise: `reply` is the reply that the server sent to this consumer
    abbrev pub HearsTheReply : Setting Fields → World Fields → wire.Answer → Type 0
    HearsTheReply s w reply =
        IsHeard (run s until_replied w).now.consumer.answer (hears settings now_asking.asked reply)

    -- the events of a round that fails with an error. `handled` are the events of its reply. If nothing was
    -- sent, the worker may have committed
    abbrev pub events_by : RunError → (handled : List (Event Fields)) → List (Event Fields)
    events_by (causes.Request e) handled = map Plain (unasked_events v.machine e)
    events_by e handled = until_replied ++ (handled ++ Plain Reconnect ∷ [])

module _ {R : Type 0} (k : Keeps R) (settings : Settings) where
  -- the events of a reply during which memory ran out. The handler may have handled some entries before that
  abbrev pub cut_by : {A : Type 0} {asked : Asked} {t : Tree} {m n : Machine} {r s : R}
      → A ⊎ WasCut k.with_verdict settings asked t m n r s → List (Event Fields)
  cut_by (inl none) = []
  cut_by (inr some) = Plain (Take some.took.verdicts) ∷ []

  abbrev pub handled_of : (asked : Asked) (a : wire.Answer) (m n : Machine) (r s : R) (e : WorkerError)
      → Failed k.with_verdict settings asked a m n r s e → List (Event Fields)
  handled_of asked a m n r s faults.Memory f = cut_by f.2
  handled_of asked a m n r s e f = []

module _ {R : Type 0} (k : Keeps R) (settings : Settings) (v x : Standing R) where
  -- ---- a round that returns `Ok`

  -- the round of the contract, with or without a WAIT
  abbrev pub IsRound : Option Wait → (old new : Link) → Asked → Progress → Type 0
  IsRound None old new asked p = Turned k.with_verdict k.with_commit settings old new v x asked p
  IsRound (Some w) old new asked p = IsConfirmedRound k.with_verdict k.with_commit settings w old new v x asked p

  -- the reply of the round, and the verdicts of the handler
  abbrev pub turn_of : (wait : Option Wait) (old new : Link) (asked : Asked) (p : Progress)
      → IsRound wait old new asked p → Turn
  turn_of None old new asked p r = r.turn
  turn_of (Some w) old new asked p r = r.turned.turn

  -- the premise: the reply to WAIT is the one that the server sent
  abbrev pub HearsTheWait : (wait : Option Wait) (old new : Link) (asked : Asked) (p : Progress)
      → IsRound wait old new asked p → Fate → Type 0
  HearsTheWait None old new asked p r fate = Unit {0}
  HearsTheWait (Some w) old new asked p r fate = IsSaid fate r.confirmed.0

  -- ---- a round that fails

  -- the events of the reply of a round that fails
  abbrev pub handled : (old new : Link) (e : RunError)
      → Fails k.with_verdict k.with_commit settings old new v x e → List (Event Fields)
  handled old new (causes.Answer e) f =
      let u : Standing R = asking k.with_commit settings v in
      handled_of k settings u.asked f.1.0 u.machine f.0.machine u.history f.0.history e.error f.1.2
  handled old new e f = []

  module _ (wait : Option Wait) (m : Meantime false) where
    abbrev pub events_of : (old new : Link) (e : RunError)
        → Fails k.with_verdict k.with_commit settings old new v x e → List (Event Fields)
    events_of old new e f = events_by k wait settings v m e (handled old new e f)

    -- the premise: if a reply arrived, it is the reply that the server sent
    abbrev pub HearsIt : Setting Fields → World Fields → (old new : Link) (e : RunError)
        → Fails k.with_verdict k.with_commit settings old new v x e → Type 0
    HearsIt s w old new (causes.Answer e) f = HearsTheReply k wait settings v m s w f.1.0
    HearsIt s w old new e f = Unit {0}

  -- the round of the contract fails, with or without a WAIT
  abbrev pub IsFailure : Option Wait → (old new : Link) → RoundError → Type 0
  IsFailure None old new (ends.Run e) = Fails k.with_verdict k.with_commit settings old new v x e
  IsFailure None old new (ends.Unconfirmed e) = ⊥
  IsFailure (Some w) old new e = FailsConfirmed k.with_verdict k.with_commit settings w old new v x e

  -- the events of a round that fails. In a round that is not confirmed no entry is handled
  abbrev pub failure_events : (wait : Option Wait) (m : Meantime false) (old new : Link) (e : RoundError)
      → IsFailure wait old new e → List (Event Fields)
  failure_events None m old new (ends.Run e) f = events_of None m old new e f
  failure_events None m old new (ends.Unconfirmed e) f = []
  failure_events (Some w) m old new (ends.Run e) (inl f) = events_by k (Some w) settings v m e []
  failure_events (Some w) m old new (ends.Run e) (inr f) = events_of (Some w) m old f.link e f.fails
  failure_events (Some w) m old new (ends.Unconfirmed e) f = until_replied k (Some w) settings v m ++ Plain Reconnect ∷ []

  -- the premise of a round that fails: the reply, if one was used, is the reply that the server sent
  abbrev pub FailsHearing : Setting Fields → World Fields → (wait : Option Wait) (m : Meantime false) (old new : Link)
      (e : RoundError) → IsFailure wait old new e → Type 0
  FailsHearing s w None m old new (ends.Run e) f = HearsIt None m s w old new e f
  FailsHearing s w None m old new (ends.Unconfirmed e) f = ⊥
  FailsHearing s w (Some a) m old new (ends.Run e) (inl f) = Unit {0}
  FailsHearing s w (Some a) m old new (ends.Run e) (inr f) = HearsIt (Some a) m s w old f.link e f.fails
  FailsHearing s w (Some a) m old new (ends.Unconfirmed e) f = Unit {0}

-- ---- a break, a crash and a start

-- the worker starts over on another connection
abbrev pub again : {R : Type 0} → Standing R → Standing R
again v = record v { machine = begins_again v.machine }

-- the moment of a crash. The server may have failed over
pub data Moment : Type 0 where
  -- the worker crashes between two rounds, or before the end of a commit. The events `before` come first
  between : (before : List (Event Fields)) → AreBesides false before → Moment
  -- the worker crashes in a round, after its commit
  within : (m : Meantime false) → Moment

-- the events before a crash at this moment, since the last round
abbrev pub events_until : {R : Type 0} → Keeps R → Option Wait → Settings → Standing R → Moment → List (Event Fields)
events_until k wait settings v (between before others) = before
events_until k wait settings v (within m) = until_replied k wait settings v m

-- the entries whose lines a crash leaves in the file: all committed ones. If the crash interrupted a commit,
-- the first `kept` of the others are there too
abbrev pub file_left : Consumer Fields → (kept : ℕ) → List (Entry Fields)
file_left c kept = c.file ++ take kept c.lines

-- how many of the entries that a crash leaves in the file were added by the last commit
abbrev pub added_last : Consumer Fields → (kept : ℕ) → ℕ
added_last c kept = last_added c.last_commit (take kept c.lines)

-- a worker is started with the settings `settings`. It begins to acknowledge the ids of the last `number` lines
-- of its file, which include the lines of the last commit. Its handler has gathered nothing
pub record StartsOver {R : Type 0} (k : Keeps R) (settings : Settings) (c : Consumer Fields) (x : Standing R) : Type 0 where
  pub kept : ℕ
  pub number : ℕ
  pub worker : Worker
  pub enough : added_last c kept ≤ number
  pub started : IsStarted settings (ids_of (last_lines number (file_left c kept))) worker
  pub stands : x ≡ standing_of worker (k.written [] (file_left c kept))

-- the event of that start
abbrev pub start_events : {R : Type 0} (k : Keeps R) (settings : Settings) (c : Consumer Fields) (x : Standing R)
    → StartsOver k settings c x → List (Event Fields)
start_events k settings c x t = Plain (Restart settings.every t.kept (t.number - added_last c t.kept)) ∷ []
