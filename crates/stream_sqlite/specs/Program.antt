-- A run of the program, in terms of its options and of its arguments.
use Rattle.std.specs.Prelude.{◌≡◌, [], ℕ, IsTrue, List, None, Option, Some, String, max, string_bytes, true}
use Rattle.std.specs.declared.alloc.Global.{Global}
use Rattle.command_lines.specs.Words.{Text}
use Rattle.redis_connection.specs.Link.{Link}
use Rattle.model_server.specs.Group.Worker.{start}
use Rattle.model_workers.specs.Loops.Loop.{Drains, Loops}
use Rattle.model_workers.specs.Loops.Shown.{Way}
use Rattle.worker.specs.Session.{Standing}
use Rattle.worker.specs.DeadLetters.Dead.{IsCounted, IsSearched, Searcher, searcher_of}
use Rattle.worker.specs.declared.dead_letters.search.DeadLetterSearch.{DeadLetterSearch}
use Rattle.worker.specs.declared.dead_letters.search.GiveUp.{GiveUp}
use Rattle.worker.specs.declared.state.Asked.{Asked}
use Rattle.worker.specs.declared.state.Asked.TheVariants.{Nothing}
use Rattle.worker.specs.declared.state.GroupState.TheVariants.{Unknown}
use Rattle.worker.specs.declared.state.Settings.{Settings}
use Rattle.worker_table.specs.Kept.{Kept}
use Rattle.worker_table.specs.Lived.{Leads}
use Rattle.worker_table.specs.RowTable.Posts.{Stored, rows_known}
use Rattle.worker_table.specs.RowTable.Rows.{Row}
use Rattle.worker_table.specs.declared.row_table.cell.Column.{Column}
use Rattle.stream_sqlite.specs.Forwards.{Ends, Forwards}
use Rattle.stream_sqlite.specs.Options.{AreOptionsOf}
use Rattle.stream_sqlite.specs.declared.options.Options.{Options}

-- the settings of the worker: with `--dead` it requests redelivered entries one at a time
abbrev pub settings_with : Option GiveUp → Settings → Settings
settings_with None settings = settings
settings_with (Some to) settings = record settings { one_at_a_time = true }

-- The search for dead letters. It gives up entries with at least `to.deliveries` deliveries, and sends their
-- letters to `to.stream`. It is made after as many reads as the worker makes between its claims, but after at
-- least one.
abbrev pub searcher_by : Settings → GiveUp → Searcher
searcher_by settings to = record {
  claimer = record {
    key = string_bytes settings.key;
    group = string_bytes settings.group;
    consumer = string_bytes settings.consumer;
    min_idle = settings.min_idle;
  };
  names = (string_bytes settings.key, string_bytes settings.group, string_bytes to.stream);
  deliveries = to.deliveries;
  every = max settings.every 1;
}

-- the search that is due after the command `asked` was made over the connection
abbrev pub SearchesAfter : DeadLetterSearch → Asked → Link → Link → Type 0
SearchesAfter d asked old new =
    (reads : ℕ) × IsCounted d.reads asked reads × IsSearched (searcher_of d) d.begun reads old new

-- the state of a new worker with these settings, whose handler begins with `kept`: it acknowledges nothing first
pub record Starts (settings : Settings) (kept : Kept) (first : Standing Kept) : Type 0 where
  pub machine : first.machine ≡ start settings.every
  pub group : first.group ≡ Unknown
  pub asked : first.asked ≡ Nothing
  pub begins : first.history ≡ kept

-- a new worker with these settings, whose handler began with `kept`, made the rounds of `way` over the connection
pub record IsRun (settings : Settings) (way : Settings → Way) (kept : Kept) (old new : Link) : Type 0 where
  pub first : Standing Kept
  pub last : Standing Kept
  pub starts : Starts settings kept first
  pub went : Leads (way settings) old new first last

-- a new worker that forwards entries, whose handler began with `kept`, made complete rounds over the connection
pub record SendsAll (settings : Settings) (kept : Kept) (old new : Link) : Type 0 where
  pub stored : Option Stored
  pub left : Option Stored
  pub first : Standing Kept
  pub last : Standing Kept
  pub rows : rows_known stored ≡ kept.committed
  pub starts : Starts settings kept first
  pub went : Forwards settings old stored first new left last

-- a new worker that forwards entries, whose handler began with `kept`, made rounds and ended as in `Ends`
pub record SendsSome (settings : Settings) (kept : Kept) (old new : Link) : Type 0 where
  pub stored : Option Stored
  pub first : Standing Kept
  pub last : Standing Kept
  pub rows : rows_known stored ≡ kept.committed
  pub starts : Starts settings kept first
  pub went : Ends settings old new stored first last

-- the rows of a table, given the path of its file and its name, if the rows are known
abbrev pub Files : Type 0
Files = Text → Text → Option (List Row)

-- the start of a handler: the columns and the rows of its table. No rows are gathered.
abbrev pub first_kept : List Column → Option (List Row) → Kept
first_kept columns known = record { columns = columns; loose = []; committed = known }

-- the start of the handler with these options, over the rows of the table in FILE
abbrev pub kept_first : Files → Options → Kept
kept_first files o = first_kept o.columns.items (files (string_bytes o.path) (string_bytes o.table))

-- The worker made complete rounds. If entries are forwarded, all posts of the outbox were sent before each
-- round.
abbrev pub Rounds : Option (String Global) → Settings → Kept → Link → Link → Type 0
Rounds None settings kept old new = IsRun settings Loops kept old new
Rounds (Some target) settings kept old new = SendsAll settings kept old new

-- as `Rounds`, but the worker may have failed or stopped after complete rounds
abbrev pub RoundsAndEnd : Option (String Global) → Settings → Kept → Link → Link → Type 0
RoundsAndEnd None settings kept old new = IsRun settings Drains kept old new
RoundsAndEnd (Some target) settings kept old new = SendsSome settings kept old new

-- `--until-empty` is given, and the loop ended after complete rounds
pub record EndsBy (files : Files) (o : Options) (old new : Link) : Type 0 where
  pub asked : IsTrue o.until_empty
  pub ends : Rounds o.forward (settings_with o.dead o.settings) (kept_first files o) old new

-- a worker with these options made rounds over the connection
abbrev pub RunsBy : Files → Options → Link → Link → Type 0
RunsBy files o old new = RoundsAndEnd o.forward (settings_with o.dead o.settings) (kept_first files o) old new

-- the arguments specify options, and the loop ended as in `EndsBy`
pub record EndsAsSaid (files : Files) (words : List Text) (old new : Link) : Type 0 where
  pub options : Options
  pub said : AreOptionsOf words options
  pub ends : EndsBy files options old new

-- the arguments specify options, and rounds were made as in `RunsBy`
pub record RunsAsSaid (files : Files) (words : List Text) (old new : Link) : Type 0 where
  pub options : Options
  pub said : AreOptionsOf words options
  pub runs : RunsBy files options old new
