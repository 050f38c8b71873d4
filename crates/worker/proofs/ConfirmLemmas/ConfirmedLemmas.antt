-- A reply that is taken after it was confirmed is taken as one that came last.
use Rattle.std.proofs.Common.{◌≡◌, ℕ, List}
use Rattle.redis_connection.specs.Link.{Link}
use Rattle.redis_wire.specs.Reply as wire
use Rattle.model_server.specs.Group.Worker.{Verdict}
use Rattle.stream_in_place.specs.Sent.{Pairs}
use Rattle.worker.specs.Session.{Standing, Turned, Fails, IsAsked}
use Rattle.worker.specs.declared.error.RunError.{RunError}
use Rattle.worker.specs.declared.error.RunError.TheVariants as causes
use Rattle.worker.specs.declared.state.Asked.{Asked}
use Rattle.worker.specs.declared.state.Settings.{Settings}
use Rattle.worker.specs.declared.worker.Progress.{Progress}
use Rattle.worker.proofs.RoundLemmas.{turned, breaks_so}
use Rattle.worker.specs.Confirm.Confirmed.{TakesConfirmed, TakesNot}

module _ {R : Type 0} (with_verdict : R → List ℕ × Pairs → Verdict → R) (with_commit : R → R) (settings : Settings)
    (old link : Link) (w y x : Standing R) (a : wire.Answer) (asked : IsAsked with_commit settings old link w y a)
    (s : Settings) (same : s ≡ settings) where
  pub confirmed_turn : (q : Asked) (p : Progress) → TakesConfirmed with_verdict s a y x q p
      → Turned with_verdict with_commit settings old link w x q p
  confirmed_turn q p t =
      turned with_verdict with_commit settings old asked.1.between link w y x (asked.0, asked.1.sends) s same q p t.0
      (a, asked.1.receives, t.1, t.2, t.3)

  pub confirmed_failure : (e : RunError) → TakesNot with_verdict s a y x e
      → Fails with_verdict with_commit settings old link w x e
  confirmed_failure (causes.Answer e) t = (
    t.0,
    breaks_so with_verdict with_commit settings old asked.1.between link w y t.0 (asked.0, asked.1.sends) s same
        (causes.Answer e) (a, asked.1.receives, t.1, t.2, t.3, t.4),
    t.5,
  )
  confirmed_failure (causes.Request e) t = absurd t
  confirmed_failure (causes.Send e) t = absurd t
  confirmed_failure (causes.Receive named e) t = absurd t
