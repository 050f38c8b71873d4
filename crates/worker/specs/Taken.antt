-- The next reply on a connection, and the worker's state after it.
use Rattle.std.specs.Prelude.{◌≡◌, ℕ, List}
use Rattle.redis_connection.specs.Link.{Link, IsEnded, IsFaulty}
use Rattle.redis_connection.specs.Passing.{AwaitsAnswer, ReceivesAnswer}
use Rattle.redis_wire.specs.Reply as wire
use Rattle.model_server.specs.Group.Worker.{Verdict}
use Rattle.stream_in_place.specs.Sent.{Pairs}
use Rattle.worker.specs.Answered.{Failed, Went}
use Rattle.worker.specs.Answers.{group_after}
use Rattle.worker.specs.Session.{Standing}
use Rattle.worker.specs.declared.error.RunError.{RunError}
use Rattle.worker.specs.declared.error.RunError.TheVariants as causes
use Rattle.worker.specs.declared.state.Asked.{Asked}
use Rattle.worker.specs.declared.state.Asked.TheVariants.{Nothing}
use Rattle.worker.specs.declared.state.Settings.{Settings}
use Rattle.worker.specs.declared.worker.Progress.{Progress}

-- no reply to the command `question` was received. The error names the command and the cause
abbrev pub Awaited : Asked → Link → Link → RunError → Type 0
Awaited question old new (causes.Receive named e) =
    AwaitsAnswer old new × IsEnded new e × IsFaulty new.held e × (named ≡ question)
Awaited question old new (causes.Request e) = ⊥
Awaited question old new (causes.Send e) = ⊥
Awaited question old new (causes.Answer e) = ⊥

module _ {R : Type 0} (with_verdict : R → List ℕ × Pairs → Verdict → R) (settings : Settings) where
  -- a reply was received, and the worker took it
  abbrev pub Takes : Link → Link → Standing R → Standing R → Progress → Type 0
  Takes old new w x p = (a : wire.Answer) × ReceivesAnswer old new a
      × Went with_verdict settings w.asked a w.machine x.machine w.history x.history p
      × (x.group ≡ group_after settings w.group w.asked a) × (x.asked ≡ Nothing)

  -- no reply was received, and the worker did not change; or the reply is an error to the worker. The error
  -- names the command
  abbrev pub TakesNot : Link → Link → Standing R → Standing R → RunError → Type 0
  TakesNot old new w x (causes.Receive named e) = (x ≡ w) × Awaited w.asked old new (causes.Receive named e)
  TakesNot old new w x (causes.Answer e) = (a : wire.Answer) × ReceivesAnswer old new a
      × Failed with_verdict settings w.asked a w.machine x.machine w.history x.history e.error
      × (x.group ≡ group_after settings w.group w.asked a) × (x.asked ≡ Nothing) × (e.asked ≡ w.asked)
  TakesNot old new w x (causes.Request e) = ⊥
  TakesNot old new w x (causes.Send e) = ⊥
