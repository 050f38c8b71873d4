-- A run of the program, in terms of its options and of its arguments.
use Rattle.std.specs.Prelude.{◌≡◌, ◌⊎◌, ℕ, List, Bool, true, false, Option, None, Some, IsTrue, max, string_bytes}
use Rattle.command_lines.specs.Words.{Text}
use Rattle.redis_connection.specs.Link.{Link}
use Rattle.model_server.specs.Group.Worker.{start}
use Rattle.worker.specs.Machine.{machine_of}
use Rattle.worker.specs.Session.{Standing}
use Rattle.worker.specs.DeadLetters.Dead.{IsCounted, IsSearched, Searcher, searcher_of}
use Rattle.worker.specs.declared.dead_letters.search.DeadLetterSearch.{DeadLetterSearch}
use Rattle.worker.specs.declared.dead_letters.search.GiveUp.{GiveUp}
use Rattle.worker.specs.declared.state.Asked.{Asked}
use Rattle.worker.specs.declared.state.Asked.TheVariants.{Nothing}
use Rattle.worker.specs.declared.state.GroupState.TheVariants.{Unknown}
use Rattle.worker.specs.declared.state.Settings.{Settings}
use Rattle.worker.specs.declared.worker.Worker.{Worker}
use Rattle.worker_jobs.specs.Talk.{Talk, over, talk_of}
use Rattle.stream_run.specs.Options.{AreOptionsOf}
use Rattle.stream_run.specs.Rounds.{Rounds, Stops}
use Rattle.stream_run.specs.declared.options.Options.{Options}

-- the settings of the worker: with `--dead` it requests redelivered entries one at a time
abbrev pub settings_with : Option GiveUp → Settings → Settings
settings_with None settings = settings
settings_with (Some to) settings = record settings { one_at_a_time = true }

-- The search for dead letters. It gives up entries with at least `to.deliveries` deliveries, and sends their
-- letters to `to.stream`. It is made after as many reads as the worker makes between its claims, but after at
-- least one.
abbrev pub searcher_by : Settings → GiveUp → Searcher
searcher_by settings to = record {
  claimer = record {
    key = string_bytes settings.key;
    group = string_bytes settings.group;
    consumer = string_bytes settings.consumer;
    min_idle = settings.min_idle;
  };
  names = (string_bytes settings.key, string_bytes settings.group, string_bytes to.stream);
  deliveries = to.deliveries;
  every = max settings.every 1;
}

-- the search that is due after the command `asked` was made over the connection
abbrev pub SearchesAfter : DeadLetterSearch → Asked → Link → Link → Type 0
SearchesAfter d asked old new =
    (reads : ℕ) × IsCounted d.reads asked reads × IsSearched (searcher_of d) d.begun reads old new

-- The talk before the first entry. The lines are of the stream in the settings. `sent` are the bytes in the
-- pipe to the child, and `coming` the bytes from the child.
abbrev pub first_talk : Settings → Option (List ℕ) → Option (List ℕ) → Talk
first_talk settings sent coming = talk_of false (string_bytes settings.key) sent coming

-- a new worker with these settings, whose handler begins with `talk`
abbrev pub newborn : Settings → Talk → Standing Talk
newborn settings talk =
    record { machine = start settings.every; group = Unknown; asked = Nothing; history = talk }

-- `worker` is new and has these settings
pub record IsNew (settings : Settings) (worker : Worker) : Type 0 where
  pub has : worker.settings ≡ settings
  pub machine : machine_of worker ≡ start settings.every
  pub group : worker.group ≡ Unknown
  pub asked : worker.asked ≡ Nothing

-- The run made complete rounds from the state `first`. It ended because of `--until-empty`, or because the talk
-- with the child is over.
pub record EndsSo (settings : Settings) (until_empty : Bool) (old new : Link) (first : Standing Talk) : Type 0 where
  pub last : Standing Talk
  pub rounds : Rounds settings old first new last
  pub why : IsTrue until_empty ⊎ (last.history ≡ over)

-- the run made rounds from the state `first`, and stopped
abbrev pub StopsSo : Settings → Link → Link → Standing Talk → Type 0
StopsSo settings old new first = (last : Standing Talk) × Stops settings old new first last

-- the run made rounds from the state `first`, stopped, and the talk with the child is over
abbrev pub OverSo : Settings → Link → Link → Standing Talk → Type 0
OverSo settings old new first = (last : Standing Talk) × Stops settings old new first last × (last.history ≡ over)

-- `held` returns the bytes in the pipe to the child at a path, and `coming` the bytes from the child, if they
-- are known.
module _ (held coming : Text → Option Text) where
  -- a new worker with these options, whose handler begins with the bytes of the pipes at their paths
  abbrev pub begun_by : Options → Standing Talk
  begun_by o = newborn (settings_with o.dead o.settings)
      (first_talk o.settings (held (string_bytes o.lines)) (coming (string_bytes o.replies)))

  -- the run ended as in `EndsSo`, with the settings of these options
  abbrev pub EndsBy : Options → Link → Link → Type 0
  EndsBy o old new = EndsSo (settings_with o.dead o.settings) o.until_empty old new (begun_by o)

  -- the run stopped as in `StopsSo`, with the settings of these options
  abbrev pub StopsBy : Options → Link → Link → Type 0
  StopsBy o old new = StopsSo (settings_with o.dead o.settings) old new (begun_by o)

  -- no command was sent, or rounds were made with these options until the talk was over
  abbrev pub ChildFailsBy : Options → Link → Link → Type 0
  ChildFailsBy o old new = (new ≡ old) ⊎ OverSo (settings_with o.dead o.settings) old new (begun_by o)

  -- the arguments specify options, and the run ended as in `EndsBy`
  pub record EndsAsSaid (words : List Text) (old new : Link) : Type 0 where
    pub options : Options
    pub said : AreOptionsOf words options
    pub ends : EndsBy options old new

  -- the arguments specify options, and the run stopped as in `StopsBy`
  pub record StopsAsSaid (words : List Text) (old new : Link) : Type 0 where
    pub options : Options
    pub said : AreOptionsOf words options
    pub stops : StopsBy options old new

  -- the arguments specify options, and the child failed as in `ChildFailsBy`
  pub record ChildFailsAsSaid (words : List Text) (old new : Link) : Type 0 where
    pub options : Options
    pub said : AreOptionsOf words options
    pub fails : ChildFailsBy options old new
