-- A round of a worker over a connection, and a WAIT before its reply is taken.
use Rattle.std.specs.Prelude.{◌≡◌, ◌⊎◌, ℕ, List}
use Rattle.redis_connection.specs.Link.{Link}
use Rattle.redis_wire.specs.Reply as wire
use Rattle.redis_connection.specs.Wait.{IsConfirmed, IsUnconfirmed}
use Rattle.redis_connection.specs.declared.confirming.ConfirmError.{ConfirmError}
use Rattle.redis_connection.specs.declared.wait.Wait.{Wait}
use Rattle.model_server.specs.Group.Worker.{Verdict, begins_again}
use Rattle.stream_in_place.specs.Sent.{Pairs}
use Rattle.worker.specs.Answered.{Failed, Went}
use Rattle.worker.specs.Answers.{group_after}
use Rattle.worker.specs.Session.{Standing, Turned, Fails, FailsUnanswered, IsAsked, after_failure}
use Rattle.worker.specs.declared.error.RunError.{RunError}
use Rattle.worker.specs.declared.error.RunError.TheVariants as causes
use Rattle.worker.specs.declared.state.Asked.{Asked}
use Rattle.worker.specs.declared.state.Asked.TheVariants.{Nothing}
use Rattle.worker.specs.declared.state.Settings.{Settings}
use Rattle.worker.specs.declared.worker.Progress.{Progress}
use Rattle.worker.specs.declared.confirm.error.RoundError.{RoundError}
use Rattle.worker.specs.declared.confirm.error.RoundError.TheVariants as ends

module _ {R : Type 0} (with_verdict : R → List ℕ × Pairs → Verdict → R) (settings : Settings) where
  -- the worker took the confirmed reply `a` to its command
  abbrev pub TakesConfirmed : wire.Answer → Standing R → Standing R → Asked → Progress → Type 0
  TakesConfirmed a y x question p = (question ≡ y.asked)
      × Went with_verdict settings y.asked a y.machine x.machine y.history x.history p
      × (x.group ≡ group_after settings y.group y.asked a) × (x.asked ≡ Nothing)

  -- the reply `a` is an error to the worker. The error is returned, and the worker begins again
  abbrev pub TakesNot : wire.Answer → Standing R → Standing R → RunError → Type 0
  TakesNot a y x (causes.Answer e) = (z : Standing R)
      × Failed with_verdict settings y.asked a y.machine z.machine y.history z.history e.error
      × (z.group ≡ group_after settings y.group y.asked a) × (z.asked ≡ Nothing) × (e.asked ≡ y.asked)
      × (x ≡ after_failure (causes.Answer e) z)
  TakesNot a y x (causes.Request e) = ⊥
  TakesNot a y x (causes.Send e) = ⊥
  TakesNot a y x (causes.Receive named e) = ⊥

module _ {R : Type 0} (with_verdict : R → List ℕ × Pairs → Verdict → R) (with_commit : R → R) (settings : Settings)
    (wait : Wait) (old new : Link) (w x : Standing R) where
  -- one round was made, and enough replicas have its command
  pub record IsConfirmedRound (question : Asked) (p : Progress) : Type 0 where
    pub link : Link
    pub turned : Turned with_verdict with_commit settings old link w x question p
    pub confirmed : IsConfirmed wait link new

  -- one round failed, though enough replicas have its command
  pub record IsConfirmedFailure (e : RunError) : Type 0 where
    pub link : Link
    pub fails : Fails with_verdict with_commit settings old link w x e
    pub confirmed : IsConfirmed wait link new

  -- the worker sent its command and received a reply, but it is not known that enough replicas have the
  -- command. The reply is discarded and the handler receives nothing. Earlier work stays, and the worker begins
  -- again
  pub record IsUnconfirmedRound (e : ConfirmError) : Type 0 where
    pub link : Link
    pub standing : Standing R
    pub answer : wire.Answer
    pub asked : IsAsked with_commit settings old link w standing answer
    pub unconfirmed : IsUnconfirmed wait link new e
    pub stands : x ≡ record standing { machine = begins_again standing.machine }

  -- why a confirmed round failed. `Run`: no reply was received, or the reply is an error to the worker.
  -- `Unconfirmed`: the reply is not confirmed
  abbrev pub FailsConfirmed : RoundError → Type 0
  FailsConfirmed (ends.Run e) = FailsUnanswered with_commit settings old new w x e ⊎ IsConfirmedFailure e
  FailsConfirmed (ends.Unconfirmed e) = IsUnconfirmedRound e
