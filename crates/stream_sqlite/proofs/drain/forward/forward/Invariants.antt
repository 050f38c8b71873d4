use Rattle.std.proofs.Common.{◌≡◌}
use Rattle.std.specs.Prelude.{option_map}
use Rattle.worker.specs.DeadLetters.Dead.{searcher_of}
use Rattle.worker_table.specs.RowTable.OfPost.{all_posted}
use Rattle.worker.specs.Session.{standing_of}
use Rattle.worker_table.specs.Forwarded.{forwarding_kept}
use Rattle.stream_sqlite.specs.Forwards.{Forwards}
use Rattle.stream_sqlite.proofs.drain.forward.forward.Given as goal

-- the rounds so far, and what went out between them, lead from where the worker was to where it is;
-- the search is the same
abbrev pub invariant-loop : goal.invariant-loop
invariant-loop g l = record {
  settings : l.worker.settings ≡ l.fn.worker.settings;
  same_search : option_map searcher_of l.dead ≡ option_map searcher_of l.fn.dead;
  forwards : Forwards l.fn.worker.settings l.fn.connection (g.T.WithOutbox.committed l.fn.rows.table)
      (standing_of l.fn.worker (forwarding_kept l.fn.rows.columns.items (all_posted l.fn.rows.loose.items)
      (g.T.WithOutbox.committed l.fn.rows.table))) l.connection (g.T.WithOutbox.committed l.rows.table)
      (standing_of l.worker (forwarding_kept l.rows.columns.items (all_posted l.rows.loose.items)
      (g.T.WithOutbox.committed l.rows.table)));
}
