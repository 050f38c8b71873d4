-- The rounds of a worker as moves, and its start.
use Rattle.std.specs.Prelude.{◌≡◌, ◌≢◌, ℕ, List, [], ◌∷◌, ◌++◌}
use Rattle.redis_connection.specs.Link.{Link}
use Rattle.worker_journal.specs.EntryLine.{Entry}
use Rattle.model_server.specs.Group.Worker.{Id, begins_with}
use Rattle.model_server.specs.Group.Group.{Name, ids_of}
use Rattle.model_server.specs.Group.Law.{Among}
use Rattle.model_workers.specs.Files.Files.{Form}
use Rattle.model_workers.specs.Files.Law.{IsLineIn}
use Rattle.worker.specs.Gathered.{Doings, done_too, committed_too}
use Rattle.worker.specs.Machine.{machine_of}
use Rattle.worker.specs.Session.{Standing, standing_of, Turn, Turned, Fails}
use Rattle.worker.specs.declared.error.RunError.{RunError}
use Rattle.worker.specs.declared.state.Asked.{Asked}
use Rattle.worker.specs.declared.state.Asked.TheVariants.{Nothing}
use Rattle.worker.specs.declared.state.GroupState.TheVariants.{Unknown}
use Rattle.worker.specs.declared.state.Settings.{Settings}
use Rattle.worker.specs.declared.worker.Progress.{Progress}
use Rattle.worker.specs.declared.worker.Worker.{Worker}
use Rattle.model_workers.specs.System.System.{System, Move, Serves, Commits, Sends, Hears, Breaks, Posts, Adds_letter}
use Rattle.model_workers.specs.System.System.{Sends_ack, Settles, Restarts, repaired, filed_then, moves, run}

-- the move is of the server, of another worker, or of a queue of dead letters
abbrev pub IsOther : Name → Move → Type 0
IsOther name (Serves event) = Unit {0}
IsOther name (Commits other) = other ≢ name
IsOther name (Sends other settings) = other ≢ name
IsOther name (Hears other settings which reply verdicts) = other ≢ name
IsOther name (Breaks other state question) = other ≢ name
IsOther name (Posts other which e) = Unit {0}
IsOther name (Adds_letter other) = Unit {0}
IsOther name (Sends_ack other) = Unit {0}
IsOther name (Settles other which) = Unit {0}
IsOther name (Restarts other settings torn ids before) = other ≢ name

-- `IsOther` holds for each move
abbrev pub AreOthers : Name → List Move → Type 0
AreOthers name [] = Unit {0}
AreOthers name (m ∷ ms) = IsOther name m × AreOthers name ms

-- the law: a move of others does not change this worker
abbrev pub OthersChangeNothing : Type 0
OthersChangeNothing = (form : Form) (s : System) (name : Name) (m : Move) → IsOther name m
    → (moves form s m).workers name ≡ s.workers name

-- the moves of a round. The worker commits and sends its command. After the moves `others` it gets the reply
-- `which`
abbrev pub round_of : Name → Settings → List Move → ℕ → Turn → List Move
round_of name settings others which turn = Commits name ∷ Sends name settings
    ∷ (others ++ Hears name settings which turn.answer turn.verdicts ∷ [])

-- the law: the moves `round_of` lead to the worker after a round, by its contract
abbrev pub RoundsAreMoves : Type 0
RoundsAreMoves = (form : Form) (s : System) (name : Name) (settings : Settings) (old new : Link) (x : Standing Doings)
    (question : Asked) (p : Progress)
    → Turned done_too committed_too settings old new (s.workers name) x question p
    → (turn : Turn) × ((others : List Move) (which : ℕ) → AreOthers name others
    → (run form (round_of name settings others which turn) s).workers name ≡ x)

-- the move is one of this worker, with these settings
abbrev pub IsOf : Name → Settings → Move → Type 0
IsOf name settings (Serves event) = ⊥
IsOf name settings (Commits other) = other ≡ name
IsOf name settings (Sends other with_settings) = (other ≡ name) × (with_settings ≡ settings)
IsOf name settings (Hears other with_settings which reply verdicts) = (other ≡ name) × (with_settings ≡ settings)
IsOf name settings (Breaks other state question) = other ≡ name
IsOf name settings (Posts other which e) = ⊥
IsOf name settings (Adds_letter other) = ⊥
IsOf name settings (Sends_ack other) = ⊥
IsOf name settings (Settles other which) = ⊥
IsOf name settings (Restarts other with_settings torn ids before) = ⊥

-- `IsOf` holds for each move
abbrev pub AreOf : Name → Settings → List Move → Type 0
AreOf name settings [] = Unit {0}
AreOf name settings (m ∷ ms) = IsOf name settings m × AreOf name settings ms

-- the law: some moves of a worker lead to its state after a round that fails, by its contract
abbrev pub FailuresAreMoves : Type 0
FailuresAreMoves = (form : Form) (s : System) (name : Name) (settings : Settings) (old new : Link)
    (x : Standing Doings) (e : RunError)
    → Fails done_too committed_too settings old new (s.workers name) x e → (which : ℕ)
    → (ms : List Move) × AreOf name settings ms × ((run form ms s).workers name ≡ x)

-- the contract of `Worker::resumed`: the new worker begins to acknowledge `ids`. For `Worker::new` there are
-- none
pub record IsStarted (settings : Settings) (ids : List Id) (w : Worker) : Type 0 where
  pub machine : machine_of w ≡ begins_with settings.every ids
  pub group : w.group ≡ Unknown
  pub asked : w.asked ≡ Nothing

-- each entry of `es` is committed after a crash that left the bytes `torn`, and is a line of the worker's file
abbrev pub AreReadBack : Form → System → Name → List ℕ → List Entry → Type 0
AreReadBack form s name torn es = (e : Entry) → Among e es
    → Among e (filed_then form s name torn) × IsLineIn (form.line e) (repaired s name torn)

-- the law: a crash, and the start of a worker with the ids of entries that it read back, are a move
abbrev pub StartsAreMoves : Type 0
StartsAreMoves = (form : Form) (s : System) (name : Name) (settings : Settings) (torn : List ℕ)
    (es before : List Entry) (w : Worker) → AreReadBack form s name torn es → IsStarted settings (ids_of es) w
    → (moves form s (Restarts name settings torn (ids_of es) before)).workers name
    ≡ standing_of w (record { loose = []; committed = before })
