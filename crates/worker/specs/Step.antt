-- A worker of the code beside the worker of the model.
use Rattle.std.specs.Prelude.{◌≡◌, ℕ, List, ◌∷◌, Some, if◌then◌else◌}
use Rattle.redis_resp.specs.Tree.{Tree}
use Rattle.redis_wire.specs.Reply as wire
use Rattle.model_server.specs.Group.Worker.{Verdict, Machine}
use Rattle.model_server.specs.Group.Group.{Name}
use Rattle.model_server.specs.Group.World.{World, Reply, Comes, Commit, Acknowledge, item, happens}
use Rattle.stream_in_place.specs.Sent.{Pairs}
use Rattle.worker.specs.Answers.{hears, told}
use Rattle.worker.specs.Answered.{Went, WasCut}
use Rattle.worker.specs.Gathered.{Doings, done_too, committed_too}
use Rattle.worker.specs.Machine.{commits, at_request, history_at_request}
use Rattle.worker.specs.declared.state.Asked.{Asked}
use Rattle.worker.specs.declared.state.Settings.{Settings}
use Rattle.worker.specs.declared.worker.Progress.{Progress}

-- the entries that the worker `c` has done but not committed in the world `w`, and the entries committed in `w`
abbrev pub doings_in : World Pairs → Name → Doings
doings_in w c = record { loose = w.loose c; committed = w.committed }

-- for some verdicts the model's worker takes the reply at the index `k` and reaches the state `n`. Its handler
-- has then done and committed the entries of `now`
pub record Steps (w : World Pairs) (k : ℕ) (r : Reply Pairs) (n : Machine) (now : Doings) : Type 0 where
  pub verdicts : List Verdict
  pub worker : (happens w (Comes k verdicts)).workers r.consumer ≡ n
  pub done : (happens w (Comes k verdicts)).loose r.consumer ≡ now.loose
  pub committed : (happens w (Comes k verdicts)).committed ≡ now.committed

-- the contract of `answered` is a step of the model, if the reply is the one that the model delivers
abbrev pub AnswersStayInStep : Type 0
AnswersStayInStep = (w : World Pairs) (k : ℕ) (r : Reply Pairs) → item w.replies k ≡ Some r
    → (settings : Settings) (question : Asked) (a : wire.Answer) → hears settings question a ≡ Some (told r.answer)
    → (n : Machine) (now : Doings) (p : Progress)
    → Went done_too settings question a (w.workers r.consumer) n (doings_in w r.consumer) now p → Steps w k r n now

-- the contract of `answered` is also a step of the model if memory runs out among the entries
abbrev pub CutsStayInStep : Type 0
CutsStayInStep = (w : World Pairs) (k : ℕ) (r : Reply Pairs) → item w.replies k ≡ Some r
    → (settings : Settings) (question : Asked) (t : Tree)
    → hears settings question (wire.value t) ≡ Some (told r.answer)
    → (n : Machine) (now : Doings)
    → WasCut done_too settings question t (w.workers r.consumer) n (doings_in w r.consumer) now → Steps w k r n now

-- the world when the worker `c` sends a command. The worker first commits, if it has something to commit and
-- nothing to acknowledge
abbrev pub as_it_asks : World Pairs → Name → World Pairs
as_it_asks w c = if commits (w.workers c) then happens w (Commit c) else w

-- the contract of `request` is a sequence of steps of the model: a commit, if one is due, and then an
-- acknowledgement of what is committed
pub record Asks (w : World Pairs) (c : Name) : Type 0 where
  pub worker : (as_it_asks w c).workers c ≡ at_request (w.workers c)
  pub done : doings_in (as_it_asks w c) c ≡ history_at_request committed_too (w.workers c) (doings_in w c)
  pub sent : (happens (as_it_asks w c) (Acknowledge c)).acks ≡ (c, (at_request (w.workers c)).to_acknowledge)
      ∷ (as_it_asks w c).acks

-- `Asks` holds in every world, for every worker
abbrev pub RequestsStayInStep : Type 0
RequestsStayInStep = (w : World Pairs) (c : Name) → Asks w c
