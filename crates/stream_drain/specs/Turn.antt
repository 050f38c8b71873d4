-- A turn of the program: a round, and commands before and after it that only read or send dead letters.
use Rattle.redis_connection.specs.Link.{Link}
use Rattle.worker.specs.Confirm.Confirmed.{IsConfirmedRound}
use Rattle.redis_connection.specs.declared.wait.Wait.{Wait}
use Rattle.stream_drain.specs.Written.{Written, committed_with, written_too}
use Rattle.model_server.specs.Group.Worker.{Verdict}
use Rattle.stream_in_place.specs.Sent.{Pairs}
use Rattle.std.specs.Prelude.{◌≡◌, ℕ, zero, suc, List}
use Rattle.worker.specs.DeadLetters.Besides.{Besides}
use Rattle.worker.specs.Session.{Standing}
use Rattle.worker.specs.declared.state.Asked.{Asked}
use Rattle.worker.specs.declared.state.Settings.{Settings}
use Rattle.worker.specs.declared.worker.Progress.{Progress}

-- a turn whose round was confirmed by `WAIT`
pub record IsConfirmedTurn (with_verdict : Written → List ℕ × Pairs → Verdict → Written)
    (with_commit : Written → Written) (settings : Settings) (wait : Wait) (old new : Link) (w x : Standing Written)
    (asked : Asked) : Type 0 where
  pub before : Link
  pub after : Link
  pub progress : Progress
  pub looked : Besides old before
  pub round : IsConfirmedRound with_verdict with_commit settings wait before after w x asked progress
  pub shown : Besides after new

-- `n` turns one after the other, each with a confirmed round
abbrev pub ConfirmedTurns : Settings → Wait → ℕ → Link → Link → Standing Written → Standing Written → Type 0
ConfirmedTurns settings wait zero old new w x = (new ≡ old) × (x ≡ w)
ConfirmedTurns settings wait (suc n) old new w x = (l : Link) × (y : Standing Written) × (asked : Asked)
    × ConfirmedTurns settings wait n old l w y
    × IsConfirmedTurn written_too committed_with settings wait l new y x asked

-- any number of turns, each with a confirmed round
abbrev pub EachIsConfirmed : Settings → Wait → Link → Link → Standing Written → Standing Written → Type 0
EachIsConfirmed settings wait old new w x = (n : ℕ) × ConfirmedTurns settings wait n old new w x
