-- The rounds of a worker whose handler writes lines, as rounds of a worker's life.
use Rattle.std.specs.Prelude.{◌≡◌, List, [], ◌++◌}
use Rattle.redis_connection.specs.Link.{Link}
use Rattle.model_server.specs.Group.Worker.{Id, start}
use Rattle.model_workers.specs.Loops.Loop.{Loops, Stops, Drains}
use Rattle.model_workers.specs.Loops.Shown.{Way, with_doings}
use Rattle.model_workers.specs.Loops.Shown as loops
use Rattle.worker.specs.Gathered.{Doings}
use Rattle.worker.specs.Life.{Lives}
use Rattle.worker.specs.Session.{Standing, Turned, Fails}
use Rattle.worker.specs.declared.error.RunError.{RunError}
use Rattle.worker.specs.declared.state.Asked.{Asked}
use Rattle.worker.specs.declared.state.Asked.TheVariants.{Nothing}
use Rattle.worker.specs.declared.state.GroupState.TheVariants.{Unknown}
use Rattle.worker.specs.declared.state.Settings.{Settings}
use Rattle.worker.specs.declared.worker.Progress.TheVariants.{GoesOn, Stopped}
use Rattle.stream_drain.specs.Written.{Beginning, Written, committed_with, written_of, written_too}

-- `w` is a state in a worker's life, and `deleted` are the ids reported as deleted. The handler did `doings`.
-- Its gathered and committed lines are those of `doings`, after the first content of the file.
pub record LivesSo (settings : Settings) (first : Beginning) (w : Standing Written) (deleted : List Id) : Type 0 where
  pub doings : Doings
  pub lives : Lives settings (with_doings w doings) deleted
  pub written : w.history ≡ written_of first doings

-- a new worker, whose handler has gathered nothing, and whose file has the first content
abbrev pub newborn_with : Settings → Beginning → Standing Written
newborn_with settings first = record {
  machine = start settings.every;
  group = Unknown;
  asked = Nothing;
  history = record { json = first.json; known = first.known; loose = []; committed = first.first };
}

-- if the lines match the history `d` before the rounds, they match a longer history after them
abbrev pub LeadsSo : Way → Link → Link → Standing Written → Standing Written → Beginning → Doings → Type 0
LeadsSo way old new w x first d = loops.LeadsSo written_of way old new w x first d

-- `LeadsSo` holds for every first content of the file and every history
abbrev pub Leads : Way → Link → Link → Standing Written → Standing Written → Type 0
Leads way old new w x = loops.Leads written_of way old new w x

-- the law: A new worker satisfies `LivesSo`. Each round leads to a longer history. A worker's life continues
-- after such rounds, and the deleted ids grow by exactly those that the replies in the rounds reported.
pub record RoundsAreLived : Type 0 where
  pub begins : (settings : Settings) (first : Beginning) → LivesSo settings first (newborn_with settings first) []
  pub goes_on : (settings : Settings) (old new : Link) (w x : Standing Written) (asked : Asked)
      → Turned written_too committed_with settings old new w x asked GoesOn → Leads (Loops settings) old new w x
  pub stops : (settings : Settings) (old new : Link) (w x : Standing Written) (asked : Asked)
      → Turned written_too committed_with settings old new w x asked Stopped → Leads (Stops settings) old new w x
  pub fails : (settings : Settings) (old new : Link) (w x : Standing Written) (e : RunError)
      → Fails written_too committed_with settings old new w x e → Leads (Stops settings) old new w x
  pub lives : (settings : Settings) (old new : Link) (v y : Standing Doings) (deleted told : List Id)
      → Lives settings v deleted → Drains settings old v new y told → Lives settings y (deleted ++ told)
