-- The rounds of a loop, as rounds of a worker's life.
use Rattle.std.specs.Prelude.{List, ◌++◌}
use Rattle.redis_connection.specs.Link.{Link}
use Rattle.model_server.specs.Group.Worker.{Id}
use Rattle.worker.specs.Gathered.{Doings}
use Rattle.worker.specs.Life.{Lives}
use Rattle.worker.specs.Session.{Standing}
use Rattle.worker.specs.declared.state.Settings.{Settings}
use Rattle.model_workers.specs.Loops.Loop.{Drains}

-- the law: a worker that lives before the rounds of a loop lives after them. Exactly the entries that the
-- replies of these rounds report are deleted in between
abbrev pub LoopsAreLived : Type 0
LoopsAreLived = (settings : Settings) (old new : Link) (v y : Standing Doings) (deleted told : List Id)
    → Lives settings v deleted → Drains settings old v new y told → Lives settings y (deleted ++ told)
