-- A run of the program, in terms of its options and of its arguments.
use Rattle.std.specs.Prelude.{◌≡◌, [], ℕ, List, Option, None, Some, IfSome, IsSomeAnd, IsTrue, is_some, max, string_bytes, true}
use Rattle.redis_connection.specs.Link.{Link}
use Rattle.redis_connection.specs.declared.wait.Wait.{Wait}
use Rattle.model_workers.specs.Loops.Loop.{Drains, Loops}
use Rattle.model_workers.specs.Loops.Shown.{Way}
use Rattle.worker.specs.Session.{Standing}
use Rattle.worker_journal.specs.Lines.{StartsWith}
use Rattle.worker.specs.DeadLetters.Dead.{IsCounted, IsSearched, Searcher, searcher_of}
use Rattle.worker.specs.declared.dead_letters.search.DeadLetterSearch.{DeadLetterSearch}
use Rattle.worker.specs.declared.dead_letters.search.GiveUp.{GiveUp}
use Rattle.worker.specs.declared.state.Asked.{Asked}
use Rattle.worker.specs.declared.state.Settings.{Settings}
use Rattle.stream_drain.specs.Lived.{Leads}
use Rattle.stream_drain.specs.Options.{AreOptionsOf}
use Rattle.stream_drain.specs.Resumed.{BeginsSo, BeginsWithLast, KnowsItsFile}
use Rattle.command_lines.specs.Words.{Text}
use Rattle.stream_drain.specs.declared.options.Options.{Options}
use Rattle.stream_drain.specs.Turn.{EachIsConfirmed}
use Rattle.stream_drain.specs.Written.{Written}

-- the settings of the worker: with `--dead` it requests redelivered entries one at a time
abbrev pub settings_with : Option GiveUp → Settings → Settings
settings_with None settings = settings
settings_with (Some to) settings = record settings { one_at_a_time = true }

-- The search for dead letters. It gives up entries with at least `to.deliveries` deliveries, and sends their
-- letters to `to.stream`. It is made after as many reads as the worker makes between its claims, but after at
-- least one.
abbrev pub searcher_by : Settings → GiveUp → Searcher
searcher_by settings to = record {
  claimer = record {
    key = string_bytes settings.key;
    group = string_bytes settings.group;
    consumer = string_bytes settings.consumer;
    min_idle = settings.min_idle;
  };
  names = (string_bytes settings.key, string_bytes settings.group, string_bytes to.stream);
  deliveries = to.deliveries;
  every = max settings.every 1;
}

-- the search that is due after the command `asked` was made over the connection
abbrev pub SearchesAfter : DeadLetterSearch → Asked → Link → Link → Type 0
SearchesAfter d asked old new =
    (reads : ℕ) × IsCounted d.reads asked reads × IsSearched (searcher_of d) d.begun reads old new

-- the most lines whose entries a start acknowledges
abbrev pub most_lines : ℕ
most_lines = 10000

-- A worker before its first command. If no lines are gathered, and the committed bytes are known, it acknowledges
-- the entries of the last committed lines first.
pub record Starts (settings : Settings) (lines : Written) (first : Standing Written) : Type 0 where
  pub begins : first.history ≡ lines
  pub lives : lines.loose ≡ []
      → IfSome lines.committed (λ bytes. BeginsSo most_lines settings lines.json lines.known bytes first)
  pub last : lines.loose ≡ []
      → IfSome lines.committed (λ bytes. BeginsWithLast most_lines settings lines.json lines.known bytes first)

-- rounds of `way` led from `first` over the connection
pub record Goes (settings : Settings) (way : Settings → Way) (first : Standing Written) (old new : Link) : Type 0 where
  pub last : Standing Written
  pub went : Leads (way settings) old new first last

-- complete rounds led from `first` over the connection. If `WAIT` is used, each of them was confirmed.
pub record GoesToTheEnd (settings : Settings) (wait : Option Wait) (first : Standing Written) (old new : Link) : Type 0 where
  pub last : Standing Written
  pub went : Leads (Loops settings) old new first last
  pub confirmed : IfSome wait (λ one. EachIsConfirmed settings one old new first last)

-- a worker with these settings, whose handler began with `lines`, made the rounds of `way` over the connection
pub record IsRun (settings : Settings) (way : Settings → Way) (lines : Written) (old new : Link) : Type 0 where
  pub first : Standing Written
  pub starts : Starts settings lines first
  pub goes : Goes settings way first old new

-- The run ended after complete rounds. If `WAIT` is used, each round was confirmed.
pub record EndsSo (settings : Settings) (wait : Option Wait) (lines : Written) (old new : Link) : Type 0 where
  pub first : Standing Written
  pub starts : Starts settings lines first
  pub goes : GoesToTheEnd settings wait first old new

-- if the bytes of a file are known, the committed text is known, and the file begins with it
abbrev pub BeginsFile : Option Text → Option Text → Type 0
BeginsFile file committed = IfSome file (λ bytes. IsSomeAnd committed (λ lines. StartsWith lines bytes))

-- the known ids are those of the committed text, if the bytes of the file are known
abbrev pub KnowsWhatItHas : Option Text → Written → Type 0
KnowsWhatItHas file lines =
    IfSome file (λ _. IfSome lines.committed (λ bytes. KnowsItsFile lines.json bytes lines.known))

-- The handler's first lines. FILE begins with the committed lines, and no lines are gathered. With `--look-up` the
-- known ids are those of these lines.
pub record StartsIn (content : Text → Option Text) (o : Options) (lines : Written) : Type 0 where
  pub file : BeginsFile (content (string_bytes o.path)) lines.committed
  pub json : lines.json ≡ o.json
  pub look_up : is_some lines.known ≡ o.look_up
  pub knows : KnowsWhatItHas (content (string_bytes o.path)) lines
  pub none : lines.loose ≡ []

-- `--until-empty` is given, and the loop ended after complete rounds
pub record EndsBy (content : Text → Option Text) (o : Options) (old new : Link) : Type 0 where
  pub lines : Written
  pub starts : StartsIn content o lines
  pub asked : IsTrue o.until_empty
  pub ends : EndsSo (settings_with o.dead o.settings) o.wait lines old new

-- a worker with these options made rounds over the connection
pub record RunsBy (content : Text → Option Text) (o : Options) (old new : Link) : Type 0 where
  pub lines : Written
  pub starts : StartsIn content o lines
  pub ran : IsRun (settings_with o.dead o.settings) Drains lines old new

-- the arguments specify options, and the loop ended as in `EndsBy`
pub record EndsAsSaid (content : Text → Option Text) (words : List Text) (old new : Link) : Type 0 where
  pub options : Options
  pub said : AreOptionsOf words options
  pub ends : EndsBy content options old new

-- the arguments specify options, and rounds were made as in `RunsBy`
pub record RunsAsSaid (content : Text → Option Text) (words : List Text) (old new : Link) : Type 0 where
  pub options : Options
  pub said : AreOptionsOf words options
  pub runs : RunsBy content options old new
