-- Turns whose round is confirmed.
use Rattle.std.proofs.Common.{◌+◌, add-one, refl, subst, sym}
use Rattle.std.specs.Prelude.{ℕ, IfSome, List, Option, Some, None}
use Rattle.redis_connection.specs.Link.{Link}
use Rattle.worker.specs.Confirm.Confirmed.{IsConfirmedRound}
use Rattle.stream_drain.specs.Turn.{ConfirmedTurns, EachIsConfirmed, IsConfirmedTurn}
use Rattle.stream_drain.specs.Written.{Written, committed_with, written_too}
use Rattle.redis_connection.specs.declared.wait.Wait.{Wait}
use Rattle.model_server.specs.Group.Worker.{Verdict}
use Rattle.stream_in_place.specs.Sent.{Pairs}
use Rattle.worker.specs.DeadLetters.Besides.{Besides}
use Rattle.worker.specs.Session.{Standing}
use Rattle.worker.specs.declared.state.Asked.{Asked}
use Rattle.worker.specs.declared.state.Settings.{Settings}
use Rattle.worker.specs.declared.worker.Progress.{Progress}

-- a confirmed round, with what is asked before it and after it, is a confirmed turn
pub confirmed_turn : (v : Written → List ℕ × Pairs → Verdict → Written) (k : Written → Written) (settings : Settings)
    (wait : Option Wait) (old before after new : Link) (w x : Standing Written) (asked : Asked) (p : Progress)
    → Besides old before
    → IfSome wait (λ one. IsConfirmedRound v k settings one before after w x asked p)
    → Besides after new
    → IfSome wait (λ one. IsConfirmedTurn v k settings one old new w x asked)
confirmed_turn v k settings None old before after new w x asked p looked round shown = round
confirmed_turn v k settings (Some one) old before after new w x asked p looked round shown = record {
  before = before;
  after = after;
  progress = p;
  looked = looked;
  round = round;
  shown = shown;
}

-- no turn was made yet
pub no_turn : (wait : Option Wait) (settings : Settings) (l : Link) (w : Standing Written)
    → IfSome wait (λ one. ConfirmedTurns settings one 0 l l w w)
no_turn None settings l w = tt
no_turn (Some one) settings l w = (refl, refl)

-- one more was
pub one_more_turn : (wait : Option Wait) (settings : Settings) (n : ℕ) (old l new : Link) (w y x : Standing Written)
    (asked : Asked) → IfSome wait (λ one. ConfirmedTurns settings one n old l w y)
    → IfSome wait (λ one. IsConfirmedTurn written_too committed_with settings one l new y x asked)
    → IfSome wait (λ one. ConfirmedTurns settings one (n + 1) old new w x)
one_more_turn None settings n old l new w y x asked before next = tt
one_more_turn (Some one) settings n old l new w y x asked before next =
    subst (λ (k : ℕ). ConfirmedTurns settings one k old new w x) (sym (add-one n)) (l, y, asked, before, next)

pub so_many_turns : (wait : Option Wait) (settings : Settings) (n : ℕ) (old new : Link) (w x : Standing Written)
    → IfSome wait (λ one. ConfirmedTurns settings one n old new w x)
    → IfSome wait (λ one. EachIsConfirmed settings one old new w x)
so_many_turns None settings n old new w x turns = tt
so_many_turns (Some one) settings n old new w x turns = (n, turns)
