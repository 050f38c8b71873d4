use Rattle.std.proofs.Common.{List, Option}
use Rattle.std.proofs.lemmas.Bool.{le-ltb}
use Rattle.worker_table.specs.RowTable.Rows.{Row}
use Rattle.worker_table.specs.declared.row_table.cell.Column.{Column}
use Rattle.worker_table.specs.declared.row_table.row.Row as memory
use Rattle.worker_table.specs.Kept.{Kept, kept_by}
use Rattle.worker.proofs.DeadLettersLemmas.DeadLemmas.{on_err}
use Rattle.worker.specs.Session.{Standing, standing_of}
use Rattle.worker.specs.declared.worker.Worker.{Worker}
use Rattle.worker_table.proofs.LivedLemmas.{leads_end}
use Rattle.stream_sqlite.proofs.LookLemmas.{leads_breaks, looked_on, looked_stops, searched_first}
use Rattle.stream_sqlite.proofs.drain.make_turn.Goals as goal

-- the state of a worker, with what its handler keeps
abbrev stands : Worker → List Column → List memory.Row → Option (List Row) → Standing Kept
stands w columns loose known = standing_of w (kept_by columns loose known)

pub returns-in_err-look-clause-err : goal.returns-in_err-look-clause-err
returns-in_err-look-clause-err g c =
    let w = stands c.args.worker.now c.args.rows.now.columns.items c.args.rows.now.loose.items
    (g.T.Table.committed c.args.rows.now.table) in
    on_err c.from_residual.result
    (leads_breaks c.args.worker.now.settings c.args.connection.now c.look.new.connection w c.in_err-look.ensures.err)

pub returns-in_err-made-clause-err : goal.returns-in_err-made-clause-err
returns-in_err-made-clause-err g c =
    let w = stands c.args.worker.now c.args.rows.now.columns.items c.args.rows.now.loose.items
    (g.T.Table.committed c.args.rows.now.table) in
    let y = stands c.make_round.new.worker c.make_round.new.rows.columns.items c.make_round.new.rows.loose.items
    (g.T.Table.committed c.make_round.new.rows.table) in
    on_err c.from_residual-in_err-made.result
    (looked_stops c.args.worker.now.settings c.args.connection.now c.look.new.connection c.make_round.new.connection w y
    c.in_ok-look.ensures.ok c.in_err-made.ensures.err)

pub returns-in_err-say_left-clause-err : goal.returns-in_err-say_left-clause-err
returns-in_err-say_left-clause-err g c =
    let w = stands c.args.worker.now c.args.rows.now.columns.items c.args.rows.now.loose.items
    (g.T.Table.committed c.args.rows.now.table) in
    let y = stands c.make_round.new.worker c.make_round.new.rows.columns.items c.make_round.new.rows.loose.items
    (g.T.Table.committed c.make_round.new.rows.table) in
    on_err c.from_residual-in_err-say_left.result
    (leads_end c.args.worker.now.settings c.args.connection.now c.make_round.new.connection w y
    (looked_on c.args.worker.now.settings c.args.connection.now c.look.new.connection c.make_round.new.connection w y
    c.in_ok-look.ensures.ok c.in_ok-made.ensures.ok))

pub returns-clause-ok : goal.returns-clause-ok
returns-clause-ok g c =
    let w = stands c.args.worker.now c.args.rows.now.columns.items c.args.rows.now.loose.items
    (g.T.Table.committed c.args.rows.now.table) in
    let y = stands c.make_round.new.worker c.make_round.new.rows.columns.items c.make_round.new.rows.loose.items
    (g.T.Table.committed c.make_round.new.rows.table) in
    looked_on c.args.worker.now.settings c.args.connection.now c.look.new.connection c.make_round.new.connection w y
    c.in_ok-look.ensures.ok c.in_ok-made.ensures.ok

pub returns-clause-searches : goal.returns-clause-searches
returns-clause-searches g c = λ settled.
    let w = stands c.args.worker.now c.args.rows.now.columns.items c.args.rows.now.loose.items
    (g.T.Table.committed c.args.rows.now.table) in
    let y = stands c.make_round.new.worker c.make_round.new.rows.columns.items c.make_round.new.rows.loose.items
    (g.T.Table.committed c.make_round.new.rows.table) in
    searched_first c.args.worker.now.settings c.args.dead.now c.args.asked c.args.connection.now c.look.new.connection
    c.make_round.new.connection w y (c.in_ok-look.ensures.searches (le-ltb _ _ settled)) c.in_ok-made.ensures.ok
