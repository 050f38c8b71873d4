-- What the reply at the start of the bytes changes in a worker.
use Rattle.std.specs.Prelude.{◌≡◌, ℕ, List, ◌++◌, Result, Ok, Err}
use Rattle.redis_resp.specs.Tree.{Tree}
use Rattle.redis_wire.specs.Decoded.{NoReply, EndTooEarly, IsFirstFault}
use Rattle.redis_wire.specs.Grammar.{IsAnyReply}
use Rattle.redis_wire.specs.Reply as wire
use Rattle.redis_wire.specs.declared.fault.WireError.TheVariants as wire_errors
use Rattle.redis_wire.specs.declared.limits.Limits.{Limits}
use Rattle.model_server.specs.Group.Worker.{Machine, Verdict}
use Rattle.stream_in_place.specs.Sent.{Pairs}
use Rattle.worker.specs.Answered.{Failed, Went}
use Rattle.worker.specs.Answers.{group_after}
use Rattle.worker.specs.Session.{Standing}
use Rattle.worker.specs.declared.error.AnswerError.{AnswerError}
use Rattle.worker.specs.declared.error.InPlaceError.{InPlaceError}
use Rattle.worker.specs.declared.error.InPlaceError.TheVariants as causes
use Rattle.worker.specs.declared.error.WorkerError.{WorkerError}
use Rattle.worker.specs.declared.state.Asked.{Asked}
use Rattle.worker.specs.declared.state.Asked.TheVariants.{Nothing}
use Rattle.worker.specs.declared.state.Settings.{Settings}
use Rattle.worker.specs.declared.worker.Progress.{Progress}

-- `bytes` starts with the reply `a`. The limits of `limits` on the number of values do not apply
pub record Heads (limits : Limits) (bytes : List ℕ) (a : wire.Answer) : Type 0 where
  pub text : List ℕ
  pub rest : List ℕ
  pub is : bytes ≡ text ++ rest
  pub reply : IsAnyReply limits text a

module _ {R : Type 0} (with_verdict : R → List ℕ × Pairs → Verdict → R) (settings : Settings) (limits : Limits)
    (bytes : List ℕ) where
  -- the worker took the reply at the start of the bytes
  abbrev pub WentInPlace : Standing R → Standing R → Progress → Type 0
  WentInPlace w x p = (a : wire.Answer) × Heads limits bytes a
      × Went with_verdict settings w.asked a w.machine x.machine w.history x.history p
      × (x.group ≡ group_after settings w.group w.asked a) × (x.asked ≡ Nothing)

  -- no reply was read, and nothing changed; or the reply at the start of the bytes is an error to the worker
  abbrev pub FailedInPlace : Standing R → Standing R → InPlaceError → Type 0
  FailedInPlace w x causes.Incomplete = (x ≡ w) × NoReply limits bytes × EndTooEarly limits bytes
  FailedInPlace w x (causes.Unread wire_errors.Memory) = x ≡ w
  FailedInPlace w x (causes.Unread (wire_errors.Fault fault)) =
      (x ≡ w) × ((more : List ℕ) → NoReply limits (bytes ++ more))
      × IsFirstFault limits bytes (wire_errors.Fault fault)
  FailedInPlace w x (causes.Answer e) = (a : wire.Answer) × Heads limits bytes a
      × Failed with_verdict settings w.asked a w.machine x.machine w.history x.history e.error
      × (x.group ≡ group_after settings w.group w.asked a) × (x.asked ≡ Nothing) × (e.asked ≡ w.asked)

  -- `WentInPlace` or `FailedInPlace`, by the result
  abbrev pub TakenInPlace : Standing R → Standing R → Result Progress InPlaceError → Type 0
  TakenInPlace w x (Ok p) = WentInPlace w x p
  TakenInPlace w x (Err e) = FailedInPlace w x e

-- what the value `t`, as the reply to the command, changes in a worker, by the result
abbrev pub TakenByValue : {R : Type 0} → (R → List ℕ × Pairs → Verdict → R) → Settings → Asked → Tree → Machine
    → Machine → R → R → Result Progress WorkerError → Type 0
TakenByValue with_verdict settings question t m n r s (Ok p) = Went with_verdict settings question (wire.value t) m n r s p
TakenByValue with_verdict settings question t m n r s (Err e) =
    Failed with_verdict settings question (wire.value t) m n r s e

-- the result of taking a reply to the command `question`. An error names the command
abbrev pub in_answer : Asked → Result Progress WorkerError → Result Progress InPlaceError
in_answer question (Ok p) = Ok p
in_answer question (Err e) = Err (causes.Answer (let a : AnswerError = record { asked = question; error = e } in a))
