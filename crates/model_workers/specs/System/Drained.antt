-- The rounds of a worker's code are rounds of `model_server::rounds`, if the server delivers its page.
use Rattle.std.specs.Prelude.{◌≡◌, ℕ, zero, suc, ◌≤◌, List, [], ◌∷◌, map, Some}
use Rattle.redis_connection.specs.Link.{Link}
use Rattle.model_server.specs.Group.Worker.{Id, Answer, acknowledged, own_pending, taken_over, news, entries_in}
use Rattle.model_server.specs.Group.Worker.{Phase, own, claiming, reading}
use Rattle.model_server.specs.Group.Group.{Name, given, whole, reread, claim_answer}
use Rattle.model_server.specs.Group.World.{World, Event, empty_world}
use Rattle.model_server.specs.Group.World as group
use Rattle.model_server.specs.Rounds.Page.{next_claim}
use Rattle.model_server.specs.Rounds.Rounds.{all_done, own_pick, claim_pick, round, rounds}
use Rattle.model_server.specs.Rounds.Bound.{enough_rounds}
use Rattle.model_server.specs.Rounds.Law.{IsDrained}
use Rattle.model_workers.specs.Files.Files.{Fields}
use Rattle.worker.specs.Answers.{told, hears}
use Rattle.worker.specs.Gathered.{Doings, done_too, committed_too}
use Rattle.worker.specs.Machine.{at_request}
use Rattle.worker.specs.Session.{Standing, Turn, Turned, asking}
use Rattle.worker.specs.declared.state.Asked.{Asked}
use Rattle.worker.specs.declared.state.Settings.{Settings}
use Rattle.worker.specs.declared.worker.Progress.{Progress}

-- the reply of the server in the world `w`: `acknowledged` to XACK, and its first `n` entries to a request for
-- entries
abbrev pub page_answer : ℕ → Name → World Fields → (to_acknowledge : List Id) → Phase → Answer Fields
page_answer n name w (i ∷ ids) phase = acknowledged
page_answer n name w [] (own id) = own_pending (reread (own_pick n name id w) name w.pending w.deleted w.seen)
page_answer n name w [] (claiming id) =
    taken_over (next_claim n id w.pending w.seen) (claim_answer (claim_pick n id w) w.pending w.deleted w.seen)
page_answer n name w [] (reading rounds) = news (map whole (given w.deleted n w.fresh))

-- the reply of the server to the next request of the worker `name`
abbrev pub page_for : ℕ → Name → World Fields → Answer Fields
page_for n name w =
    page_answer n name w (at_request (w.workers name)).to_acknowledge (at_request (w.workers name)).phase

-- in its round the worker gets the reply `page_for`, and its handler returns `done` for each entry
pub record HearsThePage (settings : Settings) (name : Name) (w : World Fields) (v : Standing Doings)
    (turn : Turn) : Type 0 where
  pub heard : hears settings (asking committed_too settings v).asked turn.answer
      ≡ Some (told (page_for settings.count name w))
  pub all : turn.verdicts ≡ all_done (entries_in (page_for settings.count name w))

-- the law: after such a round the worker's machine is that of the model after a round
abbrev pub OneRoundIsOne : Type 0
OneRoundIsOne = (settings : Settings) (old new : Link) (v x : Standing Doings) (question : Asked) (p : Progress)
    (name : Name) (w : World Fields) (t : Turned done_too committed_too settings old new v x question p)
    → v.machine ≡ w.workers name → HearsThePage settings name w v t.turn
    → x.machine ≡ (round settings.count name w).workers name

-- a round of the code over a server with this world
pub record RoundOver (settings : Settings) (name : Name) (w : World Fields) (v x : Standing Doings) : Type 0 where
  pub old : Link
  pub new : Link
  pub question : Asked
  pub progress : Progress
  pub turned : Turned done_too committed_too settings old new v x question progress
  pub page : HearsThePage settings name w v turned.turn

-- this number of rounds were made in order, while nothing else happened to the server
abbrev pub RoundsOver : ℕ → Settings → Name → World Fields → Standing Doings → Standing Doings → Type 0
RoundsOver zero settings name w v x = x ≡ v
RoundsOver (suc so_many) settings name w v x = (y : Standing Doings) × RoundOver settings name w v y
    × RoundsOver so_many settings name (round settings.count name w) y x

-- the law: after these rounds the machine is that of the model, whatever happened before. Enough rounds drain
-- the stream
abbrev pub EnoughRoundsDrain : Type 0
EnoughRoundsDrain = (settings : Settings) (name : Name) (events : List (Event Fields)) (v x : Standing Doings)
    (so_many : ℕ) → v.machine ≡ (group.run events empty_world).workers name
    → RoundsOver so_many settings name (group.run events empty_world) v x
    → (x.machine ≡ (rounds so_many settings.count name (group.run events empty_world)).workers name)
    × (1 ≤ settings.count → enough_rounds settings.count name (group.run events empty_world) ≤ so_many
    → IsDrained (rounds so_many settings.count name (group.run events empty_world)))
