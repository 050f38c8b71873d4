use Rattle.std.proofs.Common.{List, Option}
use Rattle.worker.proofs.DeadLettersLemmas.DeadLemmas.{on_err}
use Rattle.worker.specs.Session.{Standing, standing_of}
use Rattle.worker.specs.declared.worker.Worker.{Worker}
use Rattle.worker_table.specs.Kept.{Kept, kept_by}
use Rattle.worker_table.specs.RowTable.Rows.{Row}
use Rattle.worker_table.specs.declared.row_table.cell.Column.{Column}
use Rattle.worker_table.specs.declared.row_table.row.Row as memory
use Rattle.stream_sqlite.proofs.ProgramLemmas.{either_way, ends_so, stops_so}
use Rattle.stream_sqlite.proofs.make_run.Goals as goal

-- the state of a worker, with what its handler keeps
abbrev stands : Worker → List Column → List memory.Row → Option (List Row) → Standing Kept
stands w columns loose known = standing_of w (kept_by columns loose known)

pub returns-clause-ok : goal.returns-clause-ok
returns-clause-ok g c =
    let before = c.args.rows.now in
    let after = c.drain-ended.new.rows in
    ends_so c.drain-ended.result c.args.run.settings c.args.connection.now c.drain-ended.new.connection
    c.new-worker.result
    (kept_by before.columns.items before.loose.items (g.T.Table.committed before.table))
    (stands c.drain-ended.new.worker after.columns.items after.loose.items (g.T.Table.committed after.table))
    c.new-worker.ensures.settings c.new-worker.ensures.machine c.new-worker.ensures.group c.new-worker.ensures.asked
    c.drain-ended.ensures.ok

pub returns-clause-err : goal.returns-clause-err
returns-clause-err g c =
    let before = c.args.rows.now in
    let after = c.drain-ended.new.rows in
    stops_so c.drain-ended.result c.args.run.settings c.args.connection.now c.drain-ended.new.connection
    c.new-worker.result
    (kept_by before.columns.items before.loose.items (g.T.Table.committed before.table))
    (stands c.drain-ended.new.worker after.columns.items after.loose.items (g.T.Table.committed after.table))
    c.new-worker.ensures.settings c.new-worker.ensures.machine c.new-worker.ensures.group c.new-worker.ensures.asked
    c.drain-ended.ensures.err

pub returns-in_err-show_counts-clause-err : goal.returns-in_err-show_counts-clause-err
returns-in_err-show_counts-clause-err g c =
    let before = c.args.rows.now in
    let after = c.drain-ended.new.rows in
    on_err c.from_residual.result
    (either_way c.drain-ended.result c.args.run.settings c.args.connection.now c.drain-ended.new.connection
    c.new-worker.result
    (kept_by before.columns.items before.loose.items (g.T.Table.committed before.table))
    (stands c.drain-ended.new.worker after.columns.items after.loose.items (g.T.Table.committed after.table))
    c.new-worker.ensures.settings c.new-worker.ensures.machine c.new-worker.ensures.group c.new-worker.ensures.asked
    c.drain-ended.ensures.ok c.drain-ended.ensures.err)
