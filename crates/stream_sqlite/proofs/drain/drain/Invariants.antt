use Rattle.std.proofs.Common.{◌≡◌}
use Rattle.std.specs.Prelude.{option_map}
use Rattle.worker.specs.DeadLetters.Dead.{searcher_of}
use Rattle.worker.specs.Session.{standing_of}
use Rattle.model_workers.specs.Loops.Loop.{Loops}
use Rattle.worker_table.specs.Lived.{Leads}
use Rattle.worker_table.specs.Kept.{kept_by}
use Rattle.stream_sqlite.proofs.drain.drain.Given as goal

-- the rounds so far lead from where the worker was to where it is;
-- the search is the same
abbrev pub invariant-loop : goal.invariant-loop
invariant-loop g l = record {
  settings : l.worker.settings ≡ l.fn.worker.settings;
  same_search : option_map searcher_of l.dead ≡ option_map searcher_of l.fn.dead;
  leads : Leads (Loops l.fn.worker.settings) l.fn.connection l.connection
      (standing_of l.fn.worker (kept_by l.fn.rows.columns.items l.fn.rows.loose.items
      (g.T.Table.committed l.fn.rows.table)))
      (standing_of l.worker (kept_by l.rows.columns.items l.rows.loose.items (g.T.Table.committed l.rows.table)));
}
