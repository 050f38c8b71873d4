-- The rounds of the loop are rounds of a schedule of `model_workers::system`, in the world of `model_server::once`.
use Rattle.std.specs.Prelude.{List, [], ◌∷◌, ◌++◌}
use Rattle.redis_connection.specs.Link.{Link}
use Rattle.model_workers.specs.Files.Files.{Fields}
use Rattle.model_server.specs.Group.Worker.{Id}
use Rattle.model_server.specs.Once.Law.{after}
use Rattle.model_server.specs.Once.World.{Setting, Event}
use Rattle.model_workers.specs.System.Once.{Runs, Meantime, HearsTheAnswer, FailsHearing, round_events, failure_events}
use Rattle.worker.specs.Gathered.{Doings}
use Rattle.worker.specs.Session.{Standing}
use Rattle.worker.specs.declared.state.Settings.{Settings}
use Rattle.model_workers.specs.Loops.Loop.{Loops, Stops, ends, besides, turns, breaks, stops, fails}

module _ (s : Setting Fields) (settings : Settings) where
  -- the events of these rounds. The list of `Meantime` says what others do in each round, in order
  abbrev pub loop_events : (old new : Link) (v y : Standing Doings) (told : List Id)
      → Loops settings old v new y told → List Meantime → List (Event Fields)
  loop_events old new v y told (ends l u) ms = []
  loop_events old new v y told (besides l m n u x ids b p) ms = loop_events m n u x ids p ms
  loop_events old new v y told (turns l m n u x z asked ids t p) [] = []
  loop_events old new v y told (turns l m n u x z asked ids t p) (e ∷ ms) =
      round_events settings u e t.turn.verdicts ++ loop_events m n x z ids p ms

  -- the premise: in each round the worker gets the reply that the model's server sent
  abbrev pub HearsEach : List (Event Fields) → (old new : Link) (v y : Standing Doings) (told : List Id)
      → Loops settings old v new y told → List Meantime → Type 0
  HearsEach events old new v y told (ends l u) ms = Unit {0}
  HearsEach events old new v y told (besides l m n u x ids b p) ms = HearsEach events m n u x ids p ms
  HearsEach events old new v y told (turns l m n u x z asked ids t p) [] = ⊥
  HearsEach events old new v y told (turns l m n u x z asked ids t p) (e ∷ ms) =
      HearsTheAnswer settings u e s (after s events) t.turn.answer
      × HearsEach (events ++ round_events settings u e t.turn.verdicts) m n x z ids p ms

  -- the events of these rounds and of the last one. The last argument says what others do in the last round
  abbrev pub stop_events : (old new : Link) (v y : Standing Doings) (told : List Id)
      → Stops settings old v new y told → List Meantime → Meantime → List (Event Fields)
  stop_events old new v y told (breaks l m n u x ids p b) ms e = loop_events l m u x ids p ms
  stop_events old new v y told (stops l m n k u x z asked ids p t b) ms e =
      loop_events l m u x ids p ms ++ round_events settings x e t.turn.verdicts
  stop_events old new v y told (fails l m k n u x z error ids p f left) ms e =
      loop_events l m u x ids p ms ++ failure_events settings m k x z e error f

  abbrev pub HearsToTheEnd : List (Event Fields) → (old new : Link) (v y : Standing Doings) (told : List Id)
      → Stops settings old v new y told → List Meantime → Meantime → Type 0
  HearsToTheEnd events old new v y told (breaks l m n u x ids p b) ms e = HearsEach events l m u x ids p ms
  HearsToTheEnd events old new v y told (stops l m n k u x z asked ids p t b) ms e = HearsEach events l m u x ids p ms
      × HearsTheAnswer settings x e s (after s (events ++ loop_events l m u x ids p ms)) t.turn.answer
  HearsToTheEnd events old new v y told (fails l m k n u x z error ids p f left) ms e = HearsEach events l m u x ids p ms
      × FailsHearing settings m k x z e s (after s (events ++ loop_events l m u x ids p ms)) error f

-- the law: a schedule, then the rounds of a loop, and possibly its end, are a schedule. In these rounds others
-- may do what the worker's own search for dead letters does
pub record LoopsRun : Type 0 where
  pub loops : (s : Setting Fields) (settings : Settings) (events : List (Event Fields)) (old new : Link)
      (v y : Standing Doings) (told : List Id) (p : Loops settings old v new y told) (ms : List Meantime)
      → HearsEach s settings events old new v y told p ms → Runs s settings events v
      → Runs s settings (events ++ loop_events s settings old new v y told p ms) y
  pub stops : (s : Setting Fields) (settings : Settings) (events : List (Event Fields)) (old new : Link)
      (v y : Standing Doings) (told : List Id) (p : Stops settings old v new y told) (ms : List Meantime) (e : Meantime)
      → HearsToTheEnd s settings events old new v y told p ms e → Runs s settings events v
      → Runs s settings (events ++ stop_events s settings old new v y told p ms e) y
