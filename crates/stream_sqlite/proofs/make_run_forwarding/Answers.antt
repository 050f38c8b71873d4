use Rattle.std.proofs.Common.{List, Option, refl}
use Rattle.worker.proofs.DeadLettersLemmas.DeadLemmas.{on_err}
use Rattle.worker.specs.Session.{Standing, standing_of}
use Rattle.worker.specs.declared.worker.Worker.{Worker}
use Rattle.worker_table.specs.Forwarded.{forwarding_kept}
use Rattle.worker_table.specs.Kept.{Kept}
use Rattle.worker_table.specs.RowTable.OfPost.{all_posted}
use Rattle.worker_table.specs.RowTable.Posts.{Stored}
use Rattle.worker_table.specs.declared.row_table.cell.Column.{Column}
use Rattle.worker_table.specs.declared.row_table.post.PostedRow.{PostedRow}
use Rattle.stream_sqlite.proofs.ProgramLemmas.{all_sent, sent_either_way, some_sent}
use Rattle.stream_sqlite.proofs.make_run_forwarding.Goals as goal

-- the state of a worker, with what its handler keeps
abbrev stands : Worker → List Column → List PostedRow → Option Stored → Standing Kept
stands w columns loose known = standing_of w (forwarding_kept columns (all_posted loose) known)

pub returns-clause-ok : goal.returns-clause-ok
returns-clause-ok g c =
    let before = c.args.rows.now in
    let after = c.forward-ended.new.rows in
    let first = g.T.WithOutbox.committed before.table in
    let last = g.T.WithOutbox.committed after.table in
    all_sent c.forward-ended.result c.args.run.settings c.args.connection.now
    c.forward-ended.new.connection first last
    c.new-forwarder.result
    (forwarding_kept before.columns.items (all_posted before.loose.items) first)
    (stands c.forward-ended.new.worker after.columns.items after.loose.items last) refl
    c.new-forwarder.ensures.settings c.new-forwarder.ensures.machine c.new-forwarder.ensures.group c.new-forwarder.ensures.asked c.forward-ended.ensures.ok

pub returns-clause-err : goal.returns-clause-err
returns-clause-err g c =
    let before = c.args.rows.now in
    let after = c.forward-ended.new.rows in
    let first = g.T.WithOutbox.committed before.table in
    let last = g.T.WithOutbox.committed after.table in
    some_sent c.forward-ended.result c.args.run.settings c.args.connection.now
    c.forward-ended.new.connection first last
    c.new-forwarder.result
    (forwarding_kept before.columns.items (all_posted before.loose.items) first)
    (stands c.forward-ended.new.worker after.columns.items after.loose.items last) refl
    c.new-forwarder.ensures.settings c.new-forwarder.ensures.machine c.new-forwarder.ensures.group c.new-forwarder.ensures.asked c.forward-ended.ensures.err

pub returns-in_err-show_sent-clause-err : goal.returns-in_err-show_sent-clause-err
returns-in_err-show_sent-clause-err g c =
    let before = c.args.rows.now in
    let after = c.forward-ended.new.rows in
    let first = g.T.WithOutbox.committed before.table in
    let last = g.T.WithOutbox.committed after.table in
    on_err c.from_residual.result
    (sent_either_way c.forward-ended.result c.args.run.settings c.args.connection.now
    c.forward-ended.new.connection first last
    c.new-forwarder.result
    (forwarding_kept before.columns.items (all_posted before.loose.items) first)
    (stands c.forward-ended.new.worker after.columns.items after.loose.items last) refl
    c.new-forwarder.ensures.settings c.new-forwarder.ensures.machine c.new-forwarder.ensures.group c.new-forwarder.ensures.asked c.forward-ended.ensures.ok
    c.forward-ended.ensures.err)
