-- The rounds of a worker whose handler keeps rows, as rounds of a worker's life.
use Rattle.std.specs.Prelude.{◌≡◌, List, [], ◌++◌}
use Rattle.redis_connection.specs.Link.{Link}
use Rattle.model_server.specs.Group.Worker.{Id, start}
use Rattle.model_workers.specs.Loops.Loop.{Loops, Stops, Drains}
use Rattle.model_workers.specs.Loops.Shown.{Way, with_doings}
use Rattle.model_workers.specs.Loops.Shown as loops
use Rattle.worker.specs.Gathered.{Doings}
use Rattle.worker.specs.Life.{Lives}
use Rattle.worker.specs.Session.{Standing, Turned, Fails}
use Rattle.worker.specs.declared.error.RunError.{RunError}
use Rattle.worker.specs.declared.state.Asked.{Asked}
use Rattle.worker.specs.declared.state.Asked.TheVariants.{Nothing}
use Rattle.worker.specs.declared.state.GroupState.TheVariants.{Unknown}
use Rattle.worker.specs.declared.state.Settings.{Settings}
use Rattle.worker.specs.declared.worker.Progress.TheVariants.{GoesOn, Stopped}
use Rattle.worker_table.specs.Kept.{Beginning, Kept, committed_with, kept_of, kept_too}

-- `w` is a state in a worker's life, and `deleted` are the ids reported as deleted. The handler has done
-- `doings`. Its gathered and committed rows are those of `doings`, after the first rows.
pub record LivesSo (settings : Settings) (first : Beginning) (w : Standing Kept) (deleted : List Id) : Type 0 where
  pub doings : Doings
  pub lives : Lives settings (with_doings w doings) deleted
  pub kept : w.history ≡ kept_of first doings

-- a new worker, whose handler has gathered nothing, and whose table has the first rows
abbrev pub newborn_with : Settings → Beginning → Standing Kept
newborn_with settings first = record {
  machine = start settings.every;
  group = Unknown;
  asked = Nothing;
  history = record { columns = first.0; loose = []; committed = first.1 };
}

-- if the kept rows are those of some history of the handler, `way` leads to the kept rows of a longer history
abbrev pub Leads : Way → Link → Link → Standing Kept → Standing Kept → Type 0
Leads way old new w x = loops.Leads kept_of way old new w x

-- the law: A new worker satisfies `LivesSo`. Each round leads to a longer history. A worker's life continues
-- after such rounds, and the deleted ids grow by exactly those that the replies in the rounds reported.
pub record RoundsAreLived : Type 0 where
  pub begins : (settings : Settings) (first : Beginning) → LivesSo settings first (newborn_with settings first) []
  pub goes_on : (settings : Settings) (old new : Link) (w x : Standing Kept) (asked : Asked)
      → Turned kept_too committed_with settings old new w x asked GoesOn → Leads (Loops settings) old new w x
  pub stops : (settings : Settings) (old new : Link) (w x : Standing Kept) (asked : Asked)
      → Turned kept_too committed_with settings old new w x asked Stopped → Leads (Stops settings) old new w x
  pub fails : (settings : Settings) (old new : Link) (w x : Standing Kept) (e : RunError)
      → Fails kept_too committed_with settings old new w x e → Leads (Stops settings) old new w x
  pub lives : (settings : Settings) (old new : Link) (v y : Standing Doings) (deleted told : List Id)
      → Lives settings v deleted → Drains settings old v new y told → Lives settings y (deleted ++ told)
