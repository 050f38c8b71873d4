-- The last rounds of a worker: what is done is committed and acknowledged, and no other command is sent.
use Rattle.std.specs.Prelude.{◌≡◌, ◌≤◌, ◌⊎◌, ℕ, true, false, List, [], ◌∷◌}
use Rattle.redis_connection.specs.Link.{Link}
use Rattle.model_server.specs.Group.Worker.{Verdict}
use Rattle.stream_in_place.specs.Sent.{Pairs}
use Rattle.worker.specs.Machine.{is_settled}
use Rattle.worker.specs.Session.{Standing, Turn, asking, after_turn, Rounds, Turned, Fails, Broke}
use Rattle.worker.specs.declared.error.RunError.{RunError}
use Rattle.worker.specs.declared.state.Asked.TheVariants.{Acknowledgement}
use Rattle.worker.specs.declared.state.Settings.{Settings}
use Rattle.worker.specs.declared.worker.Progress.TheVariants.{GoesOn}

module _ {R : Type 0} (with_verdict : R → List ℕ × Pairs → Verdict → R) (with_commit : R → R)
    (settings : Settings) where
  -- the worker sent XACK in each of these rounds
  abbrev pub Acknowledge : Standing R → List Turn → Type 0
  Acknowledge w [] = Unit {0}
  Acknowledge w (t ∷ turns) = ((asking with_commit settings w).asked ≡ Acknowledgement)
      × Acknowledge (after_turn with_verdict with_commit settings w t) turns

  -- at most two rounds were made, and the worker sent XACK in each. After them everything done is committed and
  -- acknowledged
  pub record Finished (old new : Link) (w x : Standing R) : Type 0 where
    pub n : ℕ
    pub few : n ≤ 2
    pub made : Rounds with_verdict with_commit settings old new w x n GoesOn
    pub asked : Acknowledge w made.turns
    pub committed : x.machine.to_commit ≡ []
    pub acknowledged : x.machine.to_acknowledge ≡ []

  -- one of at most two rounds failed. The worker sent XACK in that round and in the one before, if there was
  -- one
  pub record FinishBroke (old new : Link) (w x : Standing R) (e : RunError) : Type 0 where
    pub broke : Broke with_verdict with_commit settings old new w x 2 e
    pub asked : Acknowledge w broke.made.turns
    pub last : (asking with_commit settings broke.before).asked ≡ Acknowledgement

  -- nothing was to be committed or acknowledged, and nothing changed; or one round was made, with an XACK
  abbrev pub Settles : Link → Link → Standing R → Standing R → Type 0
  Settles old new w x = ((is_settled w.machine ≡ true) × (new ≡ old) × (x ≡ w))
      ⊎ ((is_settled w.machine ≡ false) × Turned with_verdict with_commit settings old new w x Acknowledgement GoesOn)

  -- there was something to commit or acknowledge, and the round failed
  abbrev pub SettlesNot : Link → Link → Standing R → Standing R → RunError → Type 0
  SettlesNot old new w x e =
      (is_settled w.machine ≡ false) × Fails with_verdict with_commit settings old new w x e
