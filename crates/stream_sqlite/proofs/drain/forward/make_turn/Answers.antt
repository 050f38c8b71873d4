use Rattle.std.proofs.Common.{List, Option}
use Rattle.std.proofs.lemmas.Bool.{le-ltb}
use Rattle.worker_table.specs.RowTable.OfPost.{all_posted}
use Rattle.worker_table.specs.RowTable.Posts.{Stored}
use Rattle.worker_table.specs.declared.row_table.cell.Column.{Column}
use Rattle.worker_table.specs.declared.row_table.post.PostedRow.{PostedRow}
use Rattle.worker_table.specs.Forwarded.{forwarding_kept}
use Rattle.worker_table.specs.Kept.{Kept}
use Rattle.worker.proofs.DeadLettersLemmas.DeadLemmas.{on_err}
use Rattle.worker.specs.Session.{Standing, standing_of}
use Rattle.worker.specs.declared.worker.Worker.{Worker}
use Rattle.worker_table.proofs.LivedLemmas.{leads_end}
use Rattle.stream_sqlite.proofs.LookLemmas.{leads_breaks, looked_on, looked_stops, searched_first}
use Rattle.stream_sqlite.proofs.drain.forward.make_turn.Goals as goal

-- where a worker stands, with what its handler keeps
abbrev stands : Worker → List Column → List PostedRow → Option Stored → Standing Kept
stands w columns loose known = standing_of w (forwarding_kept columns (all_posted loose) known)

pub returns-in_err-look-clause-err : goal.returns-in_err-look-clause-err
returns-in_err-look-clause-err g c =
    let w = stands c.args.worker.now c.args.rows.now.columns.items c.args.rows.now.loose.items
    (g.T.WithOutbox.committed c.args.rows.now.table) in
    on_err c.from_residual.result
    (leads_breaks c.args.worker.now.settings c.args.connection.now c.look.new.connection w c.in_err-look.ensures.err)

pub returns-in_err-asked-clause-err : goal.returns-in_err-asked-clause-err
returns-in_err-asked-clause-err g c =
    let w = stands c.args.worker.now c.args.rows.now.columns.items c.args.rows.now.loose.items
    (g.T.WithOutbox.committed c.args.rows.now.table) in
    let y = stands c.make_round.new.worker c.make_round.new.rows.columns.items c.make_round.new.rows.loose.items
    (g.T.WithOutbox.committed c.make_round.new.rows.table) in
    on_err c.from_residual-in_err-asked.result
    (looked_stops c.args.worker.now.settings c.args.connection.now c.look.new.connection c.make_round.new.connection w y
    c.in_ok-look.ensures.ok c.in_err-asked.ensures.err)

pub returns-in_err-say_left-clause-err : goal.returns-in_err-say_left-clause-err
returns-in_err-say_left-clause-err g c =
    let w = stands c.args.worker.now c.args.rows.now.columns.items c.args.rows.now.loose.items
    (g.T.WithOutbox.committed c.args.rows.now.table) in
    let y = stands c.make_round.new.worker c.make_round.new.rows.columns.items c.make_round.new.rows.loose.items
    (g.T.WithOutbox.committed c.make_round.new.rows.table) in
    on_err c.from_residual-in_err-say_left.result
    (leads_end c.args.worker.now.settings c.args.connection.now c.make_round.new.connection w y
    (looked_on c.args.worker.now.settings c.args.connection.now c.look.new.connection c.make_round.new.connection w y
    c.in_ok-look.ensures.ok c.in_ok-asked.ensures.ok))

pub returns-clause-ok : goal.returns-clause-ok
returns-clause-ok g c =
    let w = stands c.args.worker.now c.args.rows.now.columns.items c.args.rows.now.loose.items
    (g.T.WithOutbox.committed c.args.rows.now.table) in
    let y = stands c.make_round.new.worker c.make_round.new.rows.columns.items c.make_round.new.rows.loose.items
    (g.T.WithOutbox.committed c.make_round.new.rows.table) in
    looked_on c.args.worker.now.settings c.args.connection.now c.look.new.connection c.make_round.new.connection w y
    c.in_ok-look.ensures.ok c.in_ok-asked.ensures.ok

pub returns-clause-searches : goal.returns-clause-searches
returns-clause-searches g c = λ settled.
    let w = stands c.args.worker.now c.args.rows.now.columns.items c.args.rows.now.loose.items
    (g.T.WithOutbox.committed c.args.rows.now.table) in
    let y = stands c.make_round.new.worker c.make_round.new.rows.columns.items c.make_round.new.rows.loose.items
    (g.T.WithOutbox.committed c.make_round.new.rows.table) in
    searched_first c.args.worker.now.settings c.args.dead.now c.args.asked c.args.connection.now c.look.new.connection
    c.make_round.new.connection w y (c.in_ok-look.ensures.searches (le-ltb _ _ settled)) c.in_ok-asked.ensures.ok
