-- The rounds of the loop are rounds of a schedule.
use Rattle.std.proofs.Common.{sym, subst, List, [], ◌∷◌, ◌++◌, append_assoc, append-nil}
use Rattle.redis_connection.specs.Link.{Link}
use Rattle.model_workers.specs.Files.Files.{Fields}
use Rattle.model_server.specs.Group.Worker.{Id}
use Rattle.model_server.specs.Once.World.{Setting, Event}
use Rattle.model_workers.proofs.SystemLemmas.OnceLemmas.{rounds_run}
use Rattle.model_workers.specs.System.Once.{Runs, Meantime, round_events, failure_events}
use Rattle.model_workers.specs.System.Once as once
use Rattle.worker.specs.Gathered.{Doings}
use Rattle.worker.specs.Session.{Standing}
use Rattle.worker.specs.declared.state.Settings.{Settings}
use Rattle.worker.specs.declared.worker.Progress.TheVariants.{GoesOn, Stopped}
use Rattle.model_workers.specs.Loops.Loop.{Loops, Stops, ends, besides, turns, breaks, stops, fails}
use Rattle.model_workers.specs.Loops.Scheduled.{loop_events, stop_events, HearsEach, HearsToTheEnd, LoopsRun}

module _ (s : Setting Fields) (settings : Settings) where
  loops_run : (events : List (Event Fields)) (old new : Link) (v y : Standing Doings) (told : List Id)
      (p : Loops settings old v new y told) (ms : List Meantime) → HearsEach s settings events old new v y told p ms
      → Runs s settings events v → Runs s settings (events ++ loop_events s settings old new v y told p ms) y
  loops_run events old new v y told (ends l u) ms h r =
      subst (λ (es : List (Event Fields)). Runs s settings es u) (sym (append-nil events)) r
  loops_run events old new v y told (besides l m n u x ids b p) ms h r = loops_run events m n u x ids p ms h r
  loops_run events old new v y told (turns l m n u x z asked ids t p) [] h r = absurd h
  loops_run events old new v y told (turns l m n u x z asked ids t p) (e ∷ ms) h r =
      let one : List (Event Fields) = round_events settings u e t.turn.verdicts in
      subst (λ (es : List (Event Fields)). Runs s settings es z)
      (append_assoc events one (loop_events s settings m n x z ids p ms))
      (loops_run (events ++ one) m n x z ids p ms h.1 (rounds_run s settings events l m u x asked GoesOn e t h.0 r))

  stops_run : (events : List (Event Fields)) (old new : Link) (v y : Standing Doings) (told : List Id)
      (p : Stops settings old v new y told) (ms : List Meantime) (e : Meantime)
      → HearsToTheEnd s settings events old new v y told p ms e → Runs s settings events v
      → Runs s settings (events ++ stop_events s settings old new v y told p ms e) y
  stops_run events old new v y told (breaks l m n u x ids p b) ms e h r = loops_run events l m u x ids p ms h r
  stops_run events old new v y told (stops l m n k u x z asked ids p t b) ms e h r =
      let before : List (Event Fields) = loop_events s settings l m u x ids p ms in
      subst (λ (es : List (Event Fields)). Runs s settings es z)
      (append_assoc events before (round_events settings x e t.turn.verdicts))
      (rounds_run s settings (events ++ before) m n x z asked Stopped e t h.1 (loops_run events l m u x ids p ms h.0 r))
  stops_run events old new v y told (fails l m k n u x z error ids p f left) ms e h r =
      let before : List (Event Fields) = loop_events s settings l m u x ids p ms in
      subst (λ (es : List (Event Fields)). Runs s settings es z)
      (append_assoc events before (failure_events settings m k x z e error f))
      (once.fails settings (events ++ before) m k x z error e f h.1 (loops_run events l m u x ids p ms h.0 r))

pub loops_are_scheduled : LoopsRun
loops_are_scheduled = record { loops = loops_run; stops = stops_run }
