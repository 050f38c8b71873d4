-- Rounds one after the other.
use Rattle.std.proofs.Common.{refl, inl, inr, ℕ, Bool, true, false, List, ◌++◌}
use Rattle.redis_connection.specs.Link.{Link}
use Rattle.model_server.specs.Group.Worker.{Id}
use Rattle.worker_jobs.specs.Acknowledged.{Reaches, deleted_told}
use Rattle.worker_jobs.specs.Acknowledged as jobs
use Rattle.worker_jobs.specs.Talk.{Talk, committed, talked}
use Rattle.worker.specs.DeadLetters.Besides.{Besides, BreaksBesides}
use Rattle.stream_run.specs.Rounds.{Adds, BreaksAdding, Rounds, RoundsAreReached, Stops, adds, besides, ends, turns}
use Rattle.worker.specs.Pipelined.{FailsPipelined, WentPipelined}
use Rattle.worker.specs.Session.{Standing, Turned}
use Rattle.worker.specs.declared.error.RunError.{RunError}
use Rattle.worker.specs.declared.state.Asked.{Asked}
use Rattle.worker.specs.declared.state.Asked.TheVariants.{Acknowledgement}
use Rattle.worker.specs.declared.state.Settings.{Settings}
use Rattle.worker.specs.declared.worker.Progress.{Progress}
use Rattle.worker.specs.declared.worker.Progress.TheVariants.{GoesOn}

pub rounds_both : (settings : Settings) (l m n : Link) (w x y : Standing Talk) → Rounds settings l w m x
    → Rounds settings m x n y → Rounds settings l w n y
rounds_both settings l m n w x y a (ends k v) = a
rounds_both settings l m n w x y a (besides k i j v u p b) =
    besides l i j w u (rounds_both settings l k i w v u a p) b
rounds_both settings l m n w x y a (adds k i j v u p b) = adds l i j w u (rounds_both settings l k i w v u a p) b
rounds_both settings l m n w x y a (turns k i j v u z q r p t) =
    turns l i j w u z q r (rounds_both settings l k i w v u a p) t

pub rounds_stop : (settings : Settings) (l m n : Link) (w x y : Standing Talk) → Rounds settings l w m x
    → Stops settings m n x y → Stops settings l n w y
rounds_stop settings l m n w x y a s = record {
  between = s.between;
  before = s.before;
  rounds = rounds_both settings l m s.between w x s.before a s.rounds;
  breaks = s.breaks;
}

-- nothing more goes out
pub rounds_end : (settings : Settings) (l n : Link) (w y : Standing Talk) → Rounds settings l w n y → Stops settings l n w y
rounds_end settings l n w y a = record { between = n; before = y; rounds = a; breaks = inl (refl, refl) }

-- other commands went out
pub rounds_besides : (settings : Settings) (l n : Link) (w : Standing Talk) → Besides l n → Rounds settings l w n w
rounds_besides settings l n w b = besides l l n w w (ends l w) b

pub stops_besides : (settings : Settings) (l n : Link) (w : Standing Talk) → BreaksBesides l n → Stops settings l n w w
stops_besides settings l n w b = record { between = l; before = w; rounds = ends l w; breaks = inr (inl (refl, inl b)) }

-- entries were added
pub rounds_adds : (settings : Settings) (l n : Link) (w : Standing Talk) → Adds l n → Rounds settings l w n w
rounds_adds settings l n w b = adds l l n w w (ends l w) b

pub stops_adding : (settings : Settings) (l n : Link) (w : Standing Talk) → BreaksAdding l n → Stops settings l n w w
stops_adding settings l n w b = record { between = l; before = w; rounds = ends l w; breaks = inr (inl (refl, inr b)) }

-- one round, or two with one write
pub one_round : (settings : Settings) (l n : Link) (w y : Standing Talk) (q : Asked) (p : Progress)
    → Turned talked committed settings l n w y q p → Rounds settings l w n y
one_round settings l n w y q p t = turns l l n w w y q p (ends l w) t

pub pipelined_rounds : (settings : Settings) (l n : Link) (w y : Standing Talk) (both : Bool) (q : Asked) (p : Progress)
    → WentPipelined talked committed settings l n w y both q p → Rounds settings l w n y
pipelined_rounds settings l n w y false q p t = one_round settings l n w y q p t
pipelined_rounds settings l n w y true q p (m, x, first, second) =
    turns l m n w x y q p (one_round settings l m w x Acknowledgement GoesOn first) second

pub round_fails : (settings : Settings) (l n : Link) (w y : Standing Talk) (e : RunError)
    → FailsPipelined talked committed settings l n w y e → Stops settings l n w y
round_fails settings l n w y e f =
    record { between = l; before = w; rounds = ends l w; breaks = inr (inr (e, f)) }

-- ---- where they lead

reached : (settings : Settings) (stream sent coming : List ℕ) (l n : Link) (w y : Standing Talk) (deleted : List Id)
    → Reaches settings stream sent coming w deleted → Rounds settings l w n y
    → (more : List Id) × Reaches settings stream sent coming y more
reached settings stream sent coming l n w y deleted r (ends k v) = (deleted, r)
reached settings stream sent coming l n w y deleted r (besides k i j v u p b) =
    reached settings stream sent coming k i v u deleted r p
reached settings stream sent coming l n w y deleted r (adds k i j v u p b) =
    reached settings stream sent coming k i v u deleted r p
reached settings stream sent coming l n w y deleted r (turns k i j v u z q a p t) =
    let before = reached settings stream sent coming k i v u deleted r p in
    (before.0 ++ deleted_told settings u t.turn.answer, jobs.turns u z before.0 i j q a before.1 t)

pub law_holds : RoundsAreReached
law_holds = reached
