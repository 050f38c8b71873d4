-- Rounds that replicas confirm are rounds of the loop, each with a WAIT after it.
use Rattle.std.proofs.Common.{◌≡◌, ◌⊎◌, inl, inr, refl}
use Rattle.redis_connection.specs.Link.{Link}
use Rattle.redis_resp.specs.Number.{unsigned_reading}
use Rattle.redis_resp.specs.Refusal.{RefusesNumber}
use Rattle.worker.specs.Confirm.Confirmed.{FailsConfirmed, IsConfirmedRound}
use Rattle.worker.specs.declared.confirm.error.RoundError.{RoundError}
use Rattle.worker.specs.declared.confirm.error.RoundError.TheVariants as ends
use Rattle.redis_connection.specs.Wait.{IsConfirmed, IsUnconfirmed, wait_sentence}
use Rattle.redis_connection.specs.declared.confirming.ConfirmError.{ConfirmError}
use Rattle.redis_connection.specs.declared.confirming.ConfirmError.TheVariants as causes
use Rattle.redis_connection.specs.declared.wait.Wait.{Wait}
use Rattle.worker.specs.DeadLetters.Besides.{BreaksLooking, Looks}
use Rattle.worker.proofs.DeadLettersLemmas.BesidesLemmas.{look_not_breaks, looked, looked_not}
use Rattle.model_workers.specs.Loops.Loop.{Loops, Stops}
use Rattle.model_workers.proofs.LoopsLemmas.ShownLemmas as shown
use Rattle.worker.specs.Session.{Standing}
use Rattle.worker.specs.declared.state.Asked.{Asked}
use Rattle.worker.specs.declared.state.Settings.{Settings}
use Rattle.worker.specs.declared.worker.Progress.{Progress}
use Rattle.worker.specs.declared.worker.Progress.TheVariants.{GoesOn, Stopped}
use Rattle.stream_drain.specs.Lived.{Leads}
use Rattle.stream_drain.specs.Written.{Written, committed_with, written_of, written_too}
use Rattle.stream_drain.proofs.LivedLemmas.{lines_picture}

confirmed_looks : (wait : Wait) (old new : Link) → IsConfirmed wait old new → Looks old new
confirmed_looks wait old new c =
    looked old new (wait_sentence wait) (unsigned_reading 64) c.0 (inr (inr refl)) c.1

unconfirmed_looks : (wait : Wait) (old new : Link) (e : ConfirmError) → IsUnconfirmed wait old new e
    → Looks old new ⊎ BreaksLooking old new
unconfirmed_looks wait old new (causes.Ask e) u =
    inr (look_not_breaks old new e
    (looked_not old new (wait_sentence wait) (unsigned_reading 64) RefusesNumber e (inr (inr refl)) u))
unconfirmed_looks wait old new (causes.TooFew n) u =
    inl (looked old new (wait_sentence wait) (unsigned_reading 64) n (inr (inr refl)) u.0)

module _ (settings : Settings) (wait : Wait) (old new : Link) (w x : Standing Written) where
  pub confirmed_ok : (asked : Asked) (p : Progress) → p ≡ GoesOn
      → IsConfirmedRound written_too committed_with settings wait old new w x asked p
      → Leads (Loops settings) old new w x
  confirmed_ok asked p is r =
      shown.looked_ok written_too committed_with written_of lines_picture settings old r.link new w x asked p is r.turned
      (confirmed_looks wait r.link new r.confirmed)

  pub confirmed_stopped : (asked : Asked) (p : Progress) → p ≡ Stopped
      → IsConfirmedRound written_too committed_with settings wait old new w x asked p
      → Leads (Stops settings) old new w x
  confirmed_stopped asked p is r =
      shown.looked_stopped written_too committed_with written_of lines_picture settings old r.link new w x asked p is
      r.turned (confirmed_looks wait r.link new r.confirmed)

  pub confirmed_fails : (e : RoundError) → FailsConfirmed written_too committed_with settings wait old new w x e
      → Leads (Stops settings) old new w x
  confirmed_fails (ends.Run e) (inl u) =
      shown.unanswered_fails written_too committed_with written_of lines_picture settings old new w x e u
  confirmed_fails (ends.Run e) (inr f) =
      shown.looked_fails written_too committed_with written_of lines_picture settings old f.link new w x e f.fails
      (confirmed_looks wait f.link new f.confirmed)
  confirmed_fails (ends.Unconfirmed e) u =
      shown.passed_over written_too committed_with written_of lines_picture settings old u.link new w u.standing x u.answer
      u.asked u.stands (unconfirmed_looks wait u.link new e u.unconfirmed)
