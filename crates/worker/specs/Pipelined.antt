-- Two commands in one write: an acknowledgement, and the command after it.
use Rattle.std.specs.Prelude.{◌≡◌, ◌≢◌, ◌⊎◌, Bool, true, false, List, [], ◌++◌, ℕ, Option, Some, None}
use Rattle.redis_connection.specs.Link.{Link, Sends, SendsFront}
use Rattle.redis_connection.specs.Passing.{ReceivesAnswer}
use Rattle.redis_connection.specs.declared.error.ConnectionError.TheVariants.{TooLong}
use Rattle.redis_wire.specs.Packed.{command_bytes}
use Rattle.redis_wire.specs.Reply as wire
use Rattle.model_server.specs.Group.Worker.{Verdict}
use Rattle.stream_in_place.specs.Sent.{Pairs}
use Rattle.worker.specs.Questions.{asks, sentence}
use Rattle.worker.specs.Session.{Standing, asking, command, HasAsked, IsUnanswered, Turned, Breaks, Fails}
use Rattle.worker.specs.Taken.{Awaited, Takes, TakesNot}
use Rattle.worker.specs.declared.error.RunError.{RunError}
use Rattle.worker.specs.declared.error.RunError.TheVariants as causes
use Rattle.worker.specs.declared.state.Asked.{Asked}
use Rattle.worker.specs.declared.state.Asked.TheVariants.{Acknowledgement}
use Rattle.worker.specs.declared.state.Settings.{Settings}
use Rattle.worker.specs.declared.worker.Progress.{Progress}
use Rattle.worker.specs.declared.worker.Progress.TheVariants.{GoesOn}

-- the worker in the state `y` waits for the reply to XACK. Nothing else is to be committed
abbrev pub AcknowledgesAll : {R : Type 0} → Standing R → Type 0
AcknowledgesAll y = (y.asked ≡ Acknowledgement) × (y.machine.to_commit ≡ [])

-- the command after the XACK, once everything is acknowledged
abbrev pub next_command : {R : Type 0} → Settings → Standing R → List (List ℕ)
next_command settings y = sentence settings y.group y.machine.phase []

-- which command `next_command` is
abbrev pub next_asked : {R : Type 0} → Standing R → Asked
next_asked y = asks y.group y.machine.phase []

-- the state `z`, but the worker waits for the reply to `next`
abbrev pub waiting_for : {R : Type 0} → Asked → Standing R → Standing R
waiting_for next z = record z { asked = next }

-- what happens to the second reply, if the first round failed with an error. If the first reply was an error,
-- the second reply is received and discarded, and the error is kept. If the second reply is not received, the
-- error says that. After any other error nothing more is received
abbrev pub PassesNext : Link → Link → RunError → RunError → Type 0
PassesNext old new (causes.Answer e) (causes.Answer f) = (f ≡ e) × ((a : wire.Answer) × ReceivesAnswer old new a)
PassesNext old new (causes.Answer e) (causes.Receive named f) = Awaited named old new (causes.Receive named f)
PassesNext old new (causes.Answer e) (causes.Request f) = ⊥
PassesNext old new (causes.Answer e) (causes.Send f) = ⊥
PassesNext old new (causes.Request e) f = (f ≡ causes.Request e) × (new ≡ old)
PassesNext old new (causes.Send e) f = (f ≡ causes.Send e) × (new ≡ old)
PassesNext old new (causes.Receive named e) f = (f ≡ causes.Receive named e) × (new ≡ old)

-- the first reply was an error, and the second was not received: the error names the second command. Other
-- errors name no second command
abbrev pub NamesNext : Asked → RunError → RunError → Type 0
NamesNext next (causes.Answer e) (causes.Receive named f) = named ≡ next
NamesNext next (causes.Answer e) (causes.Request f) = Unit {0}
NamesNext next (causes.Answer e) (causes.Send f) = Unit {0}
NamesNext next (causes.Answer e) (causes.Answer f) = Unit {0}
NamesNext next (causes.Request e) f = Unit {0}
NamesNext next (causes.Send e) f = Unit {0}
NamesNext next (causes.Receive named e) f = Unit {0}

-- the second command, if the first round failed. Either only a prefix of the command was sent, or all of it. In
-- the second case its reply is discarded, if one is received
abbrev pub LeavesNext : Link → Link → List (List ℕ) → RunError → RunError → Type 0
LeavesNext old new args (causes.Request e) f = ⊥
LeavesNext old new args (causes.Send e) f = (f ≡ causes.Send e) × SendsFront old new (command_bytes args)
LeavesNext old new args (causes.Receive named e) f = (between : Link) × Sends old between (command_bytes args)
    × PassesNext between new (causes.Receive named e) f
LeavesNext old new args (causes.Answer e) f = (between : Link) × Sends old between (command_bytes args)
    × PassesNext between new (causes.Answer e) f

module _ {R : Type 0} (with_commit : R → R) (settings : Settings) where
  -- `None`: one command was sent. `Some(next)`: an XACK and the command `next` were sent in one write
  abbrev pub SentBoth : Link → Link → Standing R → Standing R → Option Asked → Type 0
  SentBoth old new w y None = HasAsked with_commit settings old new w y
  SentBoth old new w y (Some next) = (y ≡ asking with_commit settings w) × AcknowledgesAll y × (next ≡ next_asked y)
      × Sends old new (command_bytes (command settings w) ++ command_bytes (next_command settings y))

  -- a prefix of the two commands was sent
  abbrev pub SentFront : Link → Link → Standing R → Standing R → RunError → Type 0
  SentFront old new w y (causes.Send e) = (y ≡ asking with_commit settings w) × AcknowledgesAll y
      × SendsFront old new (command_bytes (command settings w) ++ command_bytes (next_command settings y)) × (e ≢ TooLong)
  SentFront old new w y (causes.Request e) = ⊥
  SentFront old new w y (causes.Receive named e) = ⊥
  SentFront old new w y (causes.Answer e) = ⊥

  -- the write failed: nothing was sent, or a prefix of one command, or a prefix of the two commands
  abbrev pub SentNeither : Link → Link → Standing R → Standing R → RunError → Type 0
  SentNeither old new w y e =
      IsUnanswered with_commit settings old new w y e ⊎ SentFront old new w y e

module _ {R : Type 0} (with_verdict : R → List ℕ × Pairs → Verdict → R) (with_commit : R → R)
    (settings : Settings) where
  -- `false`: one round was made. `true`: two rounds were made, and the first acknowledged everything done
  abbrev pub WentPipelined : Link → Link → Standing R → Standing R → Bool → Asked → Progress → Type 0
  WentPipelined old new w x false question p = Turned with_verdict with_commit settings old new w x question p
  WentPipelined old new w x true question p = (m : Link) × (y : Standing R)
      × Turned with_verdict with_commit settings old m w y Acknowledgement GoesOn
      × Turned with_verdict with_commit settings m new y x question p

  -- the first of two rounds broke off, so the second was not made. `f` is the error that is returned
  abbrev pub FirstBreaks : Link → Link → Standing R → Standing R → RunError → Type 0
  FirstBreaks old new w x f = (m : Link) × (e : RunError) × Breaks with_verdict with_commit settings old m w x e
      × LeavesNext m new (next_command settings (asking with_commit settings w)) e f
      × NamesNext (next_asked (asking with_commit settings w)) e f

  -- the first of two rounds was made, and the second broke off
  abbrev pub SecondBreaks : Link → Link → Standing R → Standing R → RunError → Type 0
  SecondBreaks old new w x e = (m : Link) × (y : Standing R)
      × Turned with_verdict with_commit settings old m w y Acknowledgement GoesOn
      × Breaks with_verdict with_commit settings m new y x e

  -- the only round broke off, or one of two rounds did
  abbrev pub BreaksPipelined : Link → Link → Standing R → Standing R → RunError → Type 0
  BreaksPipelined old new w x e = Breaks with_verdict with_commit settings old new w x e
      ⊎ (FirstBreaks old new w x e ⊎ SecondBreaks old new w x e)

  -- the first of two rounds failed, so the second was not made. `f` is the error that is returned
  abbrev pub FirstFails : Link → Link → Standing R → Standing R → RunError → Type 0
  FirstFails old new w x f = (m : Link) × (e : RunError) × Fails with_verdict with_commit settings old m w x e
      × LeavesNext m new (next_command settings (asking with_commit settings w)) e f
      × NamesNext (next_asked (asking with_commit settings w)) e f

  -- the first of two rounds was made, and the second failed
  abbrev pub SecondFails : Link → Link → Standing R → Standing R → RunError → Type 0
  SecondFails old new w x e = (m : Link) × (y : Standing R)
      × Turned with_verdict with_commit settings old m w y Acknowledgement GoesOn
      × Fails with_verdict with_commit settings m new y x e

  -- the only round failed, or one of two rounds did
  abbrev pub FailsPipelined : Link → Link → Standing R → Standing R → RunError → Type 0
  FailsPipelined old new w x e = Fails with_verdict with_commit settings old new w x e
      ⊎ (FirstFails old new w x e ⊎ SecondFails old new w x e)

module _ {R : Type 0} (with_verdict : R → List ℕ × Pairs → Verdict → R) (settings : Settings) where
  -- the worker took the first reply, and then the second reply, which is the one to `next`
  abbrev pub TakesBoth : Link → Link → Standing R → Standing R → Asked → Asked → Progress → Type 0
  TakesBoth old new y x next question p = (m : Link) × (z : Standing R) × (q : Progress)
      × Takes with_verdict settings old m y z q
      × Takes with_verdict settings m new (waiting_for next z) x p × (question ≡ next)

  -- the worker did not take both replies: the first or the second was an error to the worker, or was not
  -- received
  abbrev pub BreaksBoth : Link → Link → Standing R → Standing R → Asked → RunError → Type 0
  BreaksBoth old new y x next f =
      ((m : Link) × (e : RunError) × TakesNot with_verdict settings old m y x e × PassesNext m new e f
      × NamesNext next e f)
      ⊎ ((m : Link) × (z : Standing R) × (q : Progress) × Takes with_verdict settings old m y z q
      × TakesNot with_verdict settings m new (waiting_for next z) x f)
