-- The rounds of a worker whose handler talks with a child.
use Rattle.std.specs.Prelude.{◌≡◌, ◌⊎◌, ℕ, List}
use Rattle.redis_connection.specs.Link.{Link}
use Rattle.model_server.specs.Group.Worker.{Id}
use Rattle.worker_jobs.specs.Acknowledged.{Reaches}
use Rattle.worker_jobs.specs.Talk.{Talk, committed, talked}
use Rattle.worker.specs.DeadLetters.Besides.{Besides, BreaksBesides}
use Rattle.worker.specs.Outbox.Sent.{SendsAll, SendsSome}
use Rattle.worker.specs.Pipelined.{FailsPipelined}
use Rattle.worker.specs.Session.{Standing, Turned}
use Rattle.worker.specs.declared.error.RunError.{RunError}
use Rattle.worker.specs.declared.state.Asked.{Asked}
use Rattle.worker.specs.declared.state.Settings.{Settings}
use Rattle.worker.specs.declared.worker.Progress.{Progress}

-- the commands for added entries were sent, and the server replied to each, or there were no such commands
abbrev pub Adds : Link → Link → Type 0
Adds old new = (new ≡ old) ⊎ ((commands : List (List ℕ)) × SendsAll commands old new)

-- some commands for added entries were not sent, or the server did not reply to each command
abbrev pub BreaksAdding : Link → Link → Type 0
BreaksAdding old new = (commands : List (List ℕ)) × (left : List (List ℕ)) × SendsSome commands left old new

module _ (settings : Settings) where
  -- rounds over a connection, one after the other, with other commands and added entries between them
  pub data Rounds : Link → Standing Talk → Link → Standing Talk → Type 0 where
    ends : (l : Link) (w : Standing Talk) → Rounds l w l w
    besides : (l m n : Link) (w x : Standing Talk) → Rounds l w m x → Besides m n → Rounds l w n x
    adds : (l m n : Link) (w x : Standing Talk) → Rounds l w m x → Adds m n → Rounds l w n x
    turns : (l m n : Link) (w x y : Standing Talk) (q : Asked) (p : Progress) → Rounds l w m x
        → Turned talked committed settings m n x y q p → Rounds l w n y

  -- nothing more was sent, or another command failed, or a round failed
  abbrev pub Breaks : Link → Link → Standing Talk → Standing Talk → Type 0
  Breaks old new w x = ((old ≡ new) × (w ≡ x)) ⊎ (((w ≡ x) × (BreaksBesides old new ⊎ BreaksAdding old new))
      ⊎ ((e : RunError) × FailsPipelined talked committed settings old new w x e))

  -- rounds, and then an end as in `Breaks`
  pub record Stops (old new : Link) (w x : Standing Talk) : Type 0 where
    pub between : Link
    pub before : Standing Talk
    pub rounds : Rounds old w between before
    pub breaks : Breaks between new before x

-- the law: after `Rounds` the state of a worker is still one that `Reaches` of `worker_jobs` describes
abbrev pub RoundsAreReached : Type 0
RoundsAreReached = (settings : Settings) (stream sent coming : List ℕ) (old new : Link) (w x : Standing Talk)
    (deleted : List Id) → Reaches settings stream sent coming w deleted → Rounds settings old w new x
    → (more : List Id) × Reaches settings stream sent coming x more
