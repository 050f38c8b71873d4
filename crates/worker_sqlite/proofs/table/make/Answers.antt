use Rattle.std.proofs.Common.{inr}
use Rattle.worker_sqlite.proofs.table.make.Goals as goal

pub returns-in_ok-run-in-None-clause-made : goal.returns-in_ok-run-in-None-clause-made
returns-in_ok-run-in-None-clause-made g c =
    inr (c.find_definition.new.conn, (rw c.in-None.is at c.in_ok-find_definition.ensures.found), c.in_ok-run-in-None.ensures.ran)
