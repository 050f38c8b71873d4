-- A session of a worker over a connection: the run of its machine over the replies received.
use Rattle.std.specs.Prelude.{◌≡◌, ◌≢◌, ◌≤◌, ◌<◌, ℕ, zero, suc, List, [], ◌∷◌, ◌++◌, map, length}
use Rattle.std.specs.Prelude.{codes, Option, Some, None}
use Rattle.std.specs.Io.KnownBytes.{Appends, Consumes}
use Rattle.redis_wire.specs.Grammar.{IsReply}
use Rattle.redis_wire.specs.Packed.{command_bytes}
use Rattle.redis_wire.specs.Reply as wire
use Rattle.redis_wire.specs.declared.limits.Limits.{Limits}
use Rattle.redis_connection.specs.Ask.{Exchanges}
use Rattle.redis_connection.specs.Link.{Link, Sends, SendsFront, IsEnded, IsFaulty}
use Rattle.redis_connection.specs.Passing.{IsMessage, AwaitsAnswer}
use Rattle.redis_connection.specs.declared.error.ConnectionError.TheVariants.{TooLong}
use Rattle.model_server.specs.Group.Worker.{Verdict, Machine, ending, entries_in, told_in, after, begins_again, own}
use Rattle.stream_in_place.specs.Sent.{Pairs}
use Rattle.worker.specs.Answers.{Heard, told, no_group, group_made, group_after, hears}
use Rattle.worker.specs.Answered.{Failed}
use Rattle.worker.specs.Gathered.{Doings, done_too, committed_too}
use Rattle.worker.specs.Handling.{with_all}
use Rattle.worker.specs.Machine.{machine_of, at_request, history_at_request, ending_of}
use Rattle.worker.specs.Questions.{asks, sentence}
use Rattle.worker.specs.Requested.{OnNotCommitted, Unasked}
use Rattle.worker.specs.declared.error.RunError.{RunError}
use Rattle.worker.specs.declared.error.RunError.TheVariants as causes
use Rattle.worker.specs.declared.state.Asked.{Asked}
use Rattle.worker.specs.declared.state.Asked.TheVariants.{Nothing}
use Rattle.worker.specs.declared.state.GroupState.{GroupState}
use Rattle.worker.specs.declared.state.Settings.{Settings}
use Rattle.worker.specs.declared.worker.Progress.{Progress}
use Rattle.worker.specs.declared.worker.Progress.TheVariants.{GoesOn, Stopped}
use Rattle.worker.specs.declared.worker.Worker.{Worker}

-- the state of a worker and its handler
pub record Standing (R : Type 0) : Type 0 where
  pub machine : Machine
  pub group : GroupState  -- what is known of the group
  pub asked : Asked  -- the command whose reply it waits for
  pub history : R  -- what passed between the worker and its handler

-- the state of the worker `w`, where `r` is the history of its handler
abbrev pub standing_of : {R : Type 0} → Worker → R → Standing R
standing_of w r = record { machine = machine_of w; group = w.group; asked = w.asked; history = r }

-- the machine after the error `e`. If a command may have been sent, the machine begins again with its own
-- pending entries
abbrev pub machine_after : RunError → Machine → Machine
machine_after (causes.Request e) m = m
machine_after e m = begins_again m

-- the state `w` after the error `e`
abbrev pub after_failure : {R : Type 0} → RunError → Standing R → Standing R
after_failure e w = record w { machine = machine_after e w.machine }

-- a reply that was received, and the verdicts of the handler for its entries
pub record Turn : Type 0 where
  pub answer : wire.Answer
  pub verdicts : List Verdict

-- the replies of `turns`, in order
abbrev pub answers_of : List Turn → List wire.Answer
answers_of turns = map (λ t. t.answer) turns

-- `bytes` is a sequence of this number of push messages
abbrev pub AreMessages : Limits → ℕ → List ℕ → Type 0
AreMessages limits zero bytes = bytes ≡ []
AreMessages limits (suc n) bytes = (front : List ℕ) × (text : List ℕ) × (a : wire.Answer) × (bytes ≡ front ++ text)
    × AreMessages limits n front × IsReply limits text a × IsMessage a

-- `text` is zero or more push messages, and then the reply `a`
pub record IsAnswerText (limits : Limits) (text : List ℕ) (a : wire.Answer) : Type 0 where
  pub count : ℕ
  pub messages : List ℕ
  pub answer : List ℕ
  pub is : text ≡ messages ++ answer
  pub pushed : AreMessages limits count messages
  pub reply : IsReply limits answer a
  pub is_answer : IsMessage a → ⊥

-- `bytes` is a sequence of these replies, in order. Push messages may precede each reply
abbrev pub AreReplies : Limits → List ℕ → List wire.Answer → Type 0
AreReplies limits bytes [] = bytes ≡ []
AreReplies limits bytes (a ∷ more) =
    (text : List ℕ) × (rest : List ℕ) × (bytes ≡ text ++ rest) × IsAnswerText limits text a
    × AreReplies limits rest more

-- the bytes `out` were sent. The replies `came` were received and removed from the buffer, together with the
-- push messages before each. No other byte was removed
pub record Converses (old new : Link) (out : List ℕ) (came : List wire.Answer) : Type 0 where
  pub appends : Appends old.written new.written out
  pub taken : List ℕ
  pub texts : List ℕ
  pub consumes : Consumes old.coming new.coming taken
  pub bytes : old.held.bytes ++ taken ≡ texts ++ new.held.bytes
  pub replies : AreReplies old.held.limits texts came
  pub limits : new.held.limits ≡ old.held.limits

-- the next command of a worker. If the handler must commit before this command, it has committed
abbrev pub command : {R : Type 0} → Settings → Standing R → List (List ℕ)
command settings w =
    sentence settings w.group (at_request w.machine).phase (at_request w.machine).to_acknowledge

-- `p` holds if the error is that the handler did not commit
abbrev pub OnCommitFailed : RunError → Type 0 → Type 0
OnCommitFailed (causes.Request e) p = OnNotCommitted e p
OnCommitFailed (causes.Send e) p = Unit {0}
OnCommitFailed (causes.Receive named e) p = Unit {0}
OnCommitFailed (causes.Answer e) p = Unit {0}

-- the error is that no command was written, so none was sent
abbrev pub IsUnsent : RunError → Type 0
IsUnsent (causes.Request e) = Unit {0}
IsUnsent e = ⊥

module _ {R : Type 0} (with_commit : R → R) (settings : Settings) where
  -- the state of the worker while it waits for the reply to its next command
  abbrev pub asking : Standing R → Standing R
  asking w = record {
    machine = at_request w.machine;
    group = w.group;
    asked = asks w.group (at_request w.machine).phase (at_request w.machine).to_acknowledge;
    history = history_at_request with_commit w.machine w.history;
  }

  -- the worker sent its command and received the reply `a`. Its state `x` still waits for this reply
  abbrev pub IsAsked : Link → Link → Standing R → Standing R → wire.Answer → Type 0
  IsAsked old new w x a = (x ≡ asking w) × Exchanges old new (command settings w) a

  -- the worker received no reply, by the error. `Request`: no command was written. `Send`: only a prefix of the
  -- command was sent. `Receive`: the command was sent, no reply was received, and the error names the command
  abbrev pub IsUnanswered : Link → Link → Standing R → Standing R → RunError → Type 0
  IsUnanswered old new w x (causes.Request e) =
      (new ≡ old) × Unasked with_commit w.machine x.machine w.history x.history e
      × (x.group ≡ w.group) × (x.asked ≡ w.asked)
  IsUnanswered old new w x (causes.Send e) =
      (x ≡ asking w) × SendsFront old new (command_bytes (command settings w)) × (e ≢ TooLong)
  IsUnanswered old new w x (causes.Receive named e) =
      (x ≡ asking w) × ((between : Link) × Sends old between (command_bytes (command settings w)) × AwaitsAnswer between new)
      × IsEnded new e × IsFaulty new.held e × (named ≡ x.asked)
  IsUnanswered old new w x (causes.Answer e) = ⊥

  -- the worker received no reply, as in `IsUnanswered`. If its command may have been sent, the worker begins
  -- again
  abbrev pub FailsUnanswered : Link → Link → Standing R → Standing R → RunError → Type 0
  FailsUnanswered old new w x e = (y : Standing R) × IsUnanswered old new w y e × (x ≡ after_failure e y)

  -- the worker sent its next command, and waits for the reply
  abbrev pub HasAsked : Link → Link → Standing R → Standing R → Type 0
  HasAsked old new w x = (x ≡ asking w) × Sends old new (command_bytes (command settings w))

-- the state `w` after a reply, by its meaning. `group` is what is known of the group, and `verdicts` are those
-- of the handler
abbrev pub having_heard : {R : Type 0} → (R → List ℕ × Pairs → Verdict → R) → Standing R → GroupState
    → Option Heard → List Verdict → Standing R
having_heard with_verdict w group None verdicts = record w { group = group; asked = Nothing }
having_heard with_verdict w group (Some (told answer)) verdicts = record {
  machine = after w.machine answer verdicts;
  group = group;
  asked = Nothing;
  history = with_all with_verdict w.history (told_in (entries_in answer) verdicts);
}
having_heard with_verdict w group (Some no_group) verdicts = record w { group = group; asked = Nothing }
having_heard with_verdict w group (Some group_made) verdicts = record w { group = group; asked = Nothing }

-- `p` is the progress of a round, by the meaning of its reply and the verdicts of the handler
abbrev pub EndsBy : Option Heard → List Verdict → Progress → Type 0
EndsBy None verdicts p = ⊥
EndsBy (Some (told answer)) verdicts p = ending_of p ≡ ending (entries_in answer) verdicts
EndsBy (Some no_group) verdicts p = p ≡ GoesOn
EndsBy (Some group_made) verdicts p = p ≡ GoesOn

-- the progress that a round must have if `turns` follow it: `p` if it is the last round, and else `GoesOn`
abbrev pub ends_before : List Turn → Progress → Progress
ends_before [] p = p
ends_before (t ∷ turns) p = GoesOn

-- `n` is the number of rounds that were made. It is `rounds`, or from 1 to `rounds` if the handler returned
-- `Stop`
abbrev pub IsCount : ℕ → ℕ → Progress → Type 0
IsCount rounds n GoesOn = n ≡ rounds
IsCount rounds n Stopped = (0 < n) × (n ≤ rounds)

module _ {R : Type 0} (with_verdict : R → List ℕ × Pairs → Verdict → R) (with_commit : R → R)
    (settings : Settings) where
  -- the state after one round: the worker sent its command and took the reply of the turn
  abbrev pub after_turn : Standing R → Turn → Standing R
  after_turn w t =
      let x : Standing R = asking with_commit settings w in
      having_heard with_verdict x (group_after settings x.group x.asked t.answer) (hears settings x.asked t.answer) t.verdicts

  -- the state after all these rounds
  abbrev pub after_turns : Standing R → List Turn → Standing R
  after_turns w [] = w
  after_turns w (t ∷ turns) = after_turns (after_turn w t) turns

  -- the bytes of all commands that the worker sends in these rounds
  abbrev pub bytes_asked : Standing R → List Turn → List ℕ
  bytes_asked w [] = []
  bytes_asked w (t ∷ turns) = command_bytes (command settings w) ++ bytes_asked (after_turn w t) turns

  -- each reply is valid for its command. The worker goes on after each round but the last, which has the
  -- progress `p`
  abbrev pub Ends : Standing R → List Turn → Progress → Type 0
  Ends w [] p = Unit {0}
  Ends w (t ∷ turns) p =
      EndsBy (hears settings (asking with_commit settings w).asked t.answer) t.verdicts (ends_before turns p)
      × Ends (after_turn w t) turns p

  -- `n` rounds were made: the worker sent its commands and received the replies. They lead from the state `w`
  -- to the state `x`. `p` is the progress of the last round
  pub record Rounds (old new : Link) (w x : Standing R) (n : ℕ) (p : Progress) : Type 0 where
    pub turns : List Turn
    pub count : length turns ≡ n
    pub converses : Converses old new (bytes_asked w turns) (answers_of turns)
    pub stands : x ≡ after_turns w turns
    pub ends : Ends w turns p

  -- one round was made: the worker sent the command `question` and took the reply
  pub record Turned (old new : Link) (w x : Standing R) (question : Asked) (p : Progress) : Type 0 where
    pub turn : Turn
    pub asked : question ≡ (asking with_commit settings w).asked
    pub exchanges : Exchanges old new (command settings w) turn.answer
    pub stands : x ≡ after_turn w turn
    pub ends : EndsBy (hears settings (asking with_commit settings w).asked turn.answer) turn.verdicts p

  -- the session ended without an error, after at most `rounds` rounds
  abbrev pub Ran : Link → Link → Standing R → Standing R → ℕ → Progress → Type 0
  Ran old new w x rounds p = (n : ℕ) × IsCount rounds n p × Rounds old new w x n p

  -- a round broke off with an error: no reply was received to its command, or the reply is an error to the
  -- worker
  abbrev pub Breaks : Link → Link → Standing R → Standing R → RunError → Type 0
  Breaks old new w x (causes.Answer e) = (a : wire.Answer) × Exchanges old new (command settings w) a
      × Failed with_verdict settings (asking with_commit settings w).asked a (at_request w.machine) x.machine
      (asking with_commit settings w).history x.history e.error
      × (x.group ≡ group_after settings w.group (asking with_commit settings w).asked a) × (x.asked ≡ Nothing)
      × (e.asked ≡ (asking with_commit settings w).asked)
  Breaks old new w x e = IsUnanswered with_commit settings old new w x e

  -- a round broke off, as in `Breaks`. If its command may have been sent, the worker begins again
  abbrev pub Fails : Link → Link → Standing R → Standing R → RunError → Type 0
  Fails old new w x e = (y : Standing R) × Breaks old new w y e × (x ≡ after_failure e y)

  -- the session broke off: fewer than `rounds` rounds were made, and the next round failed with the error `e`
  pub record Broke (old new : Link) (w x : Standing R) (rounds : ℕ) (e : RunError) : Type 0 where
    pub n : ℕ
    pub fewer : n < rounds
    pub link : Link
    pub before : Standing R
    pub made : Rounds old link w before n GoesOn
    pub fails : Fails link new before x e

-- the law of a round that failed after its command may have been sent. The next command creates the missing
-- group, acknowledges what is committed, or reads the worker's own pending entries from the first on
abbrev pub FailuresBeginAgain : Type 0
FailuresBeginAgain = (settings : Settings) (old new : Link) (w x : Standing Doings) (e : RunError)
    → Fails done_too committed_too settings old new w x e → (IsUnsent e → ⊥)
    → command settings x
    ≡ sentence settings x.group (own (codes "0")) (at_request x.machine).to_acknowledge
