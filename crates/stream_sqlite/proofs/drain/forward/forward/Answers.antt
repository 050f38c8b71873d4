use Rattle.std.proofs.Common.{◌∙◌, refl, subst, List, Option}
use Rattle.worker_table.specs.RowTable.OfPost.{all_posted}
use Rattle.worker_table.specs.RowTable.Posts.{Stored}
use Rattle.worker_table.specs.declared.row_table.cell.Column.{Column}
use Rattle.worker_table.specs.declared.row_table.post.PostedRow.{PostedRow}
use Rattle.worker.specs.Session.{Standing, standing_of}
use Rattle.worker.specs.declared.state.Settings.{Settings}
use Rattle.worker.specs.declared.worker.Worker.{Worker}
use Rattle.worker_table.specs.Forwarded.{forwarding_kept}
use Rattle.worker_table.specs.Kept.{Kept}
use Rattle.worker.proofs.DeadLettersLemmas.DeadLemmas.{on_err}
use Rattle.stream_sqlite.specs.Forwards.{Ends, Forwards, begins}
use Rattle.stream_sqlite.proofs.ForwardLemmas.{forwards_both, forwards_end, stayed}
use Rattle.stream_sqlite.proofs.drain.forward.forward.Goals as goal

-- where a worker stands, with what its handler keeps
abbrev stands : Worker → List Column → List PostedRow → Option Stored → Standing Kept
stands w columns loose known = standing_of w (forwarding_kept columns (all_posted loose) known)

pub returns-in_err-asked-clause-err : goal.returns-in_err-asked-clause-err
returns-in_err-asked-clause-err g c =
    let settings = c.args.worker.now.settings in
    let w = stands c.args.worker.now c.args.rows.now.columns.items c.args.rows.now.loose.items
    (g.T.WithOutbox.committed c.args.rows.now.table) in
    let x = stands c.loop.worker c.loop.rows.columns.items c.loop.rows.loose.items
    (g.T.WithOutbox.committed c.loop.rows.table) in
    let y = stands c.make_pass.new.worker c.make_pass.new.rows.columns.items c.make_pass.new.rows.loose.items
    (g.T.WithOutbox.committed c.make_pass.new.rows.table) in
    on_err c.from_residual.result
    (forwards_end settings c.args.connection.now c.loop.connection c.make_pass.new.connection
    (g.T.WithOutbox.committed c.args.rows.now.table) (g.T.WithOutbox.committed c.loop.rows.table) w x y
    c.loop.invariant.forwards
    (subst (λ (s : Settings). Ends s c.loop.connection c.make_pass.new.connection
    (g.T.WithOutbox.committed c.loop.rows.table) x y)
    c.loop.invariant.settings c.in_err-asked.ensures.err))

pub returns-then-rows-seen-clause-ok : goal.returns-then-rows-seen-clause-ok
returns-then-rows-seen-clause-ok g c =
    let settings = c.args.worker.now.settings in
    let w = stands c.args.worker.now c.args.rows.now.columns.items c.args.rows.now.loose.items
    (g.T.WithOutbox.committed c.args.rows.now.table) in
    let x = stands c.loop.worker c.loop.rows.columns.items c.loop.rows.loose.items
    (g.T.WithOutbox.committed c.loop.rows.table) in
    let y = stands c.make_pass.new.worker c.make_pass.new.rows.columns.items c.make_pass.new.rows.loose.items
    (g.T.WithOutbox.committed c.make_pass.new.rows.table) in
    forwards_both settings c.args.connection.now c.loop.connection c.make_pass.new.connection
    (g.T.WithOutbox.committed c.args.rows.now.table) (g.T.WithOutbox.committed c.loop.rows.table)
    (g.T.WithOutbox.committed c.make_pass.new.rows.table) w x y c.loop.invariant.forwards
    (subst (λ (s : Settings). Forwards s c.loop.connection (g.T.WithOutbox.committed c.loop.rows.table) x
    c.make_pass.new.connection (g.T.WithOutbox.committed c.make_pass.new.rows.table) y)
    c.loop.invariant.settings c.in_ok-asked.ensures.ok)

pub returns-clause-err : goal.returns-clause-err
returns-clause-err g c =
    let settings = c.args.worker.now.settings in
    let w = stands c.args.worker.now c.args.rows.now.columns.items c.args.rows.now.loose.items
    (g.T.WithOutbox.committed c.args.rows.now.table) in
    let x = stands c.loop.worker c.loop.rows.columns.items c.loop.rows.loose.items
    (g.T.WithOutbox.committed c.loop.rows.table) in
    forwards_end settings c.args.connection.now c.loop.connection c.loop.connection
    (g.T.WithOutbox.committed c.args.rows.now.table) (g.T.WithOutbox.committed c.loop.rows.table) w x x
    c.loop.invariant.forwards
    (stayed settings c.loop.connection c.loop.connection (g.T.WithOutbox.committed c.loop.rows.table) x x refl)

pub loop-init : goal.loop-init
loop-init g c =
    let w = stands c.args.worker.now c.args.rows.now.columns.items c.args.rows.now.loose.items
    (g.T.WithOutbox.committed c.args.rows.now.table) in
    record { settings = refl; same_search = refl; forwards = begins c.args.connection.now (g.T.WithOutbox.committed c.args.rows.now.table) w }

pub loop-preserved : goal.loop-preserved
loop-preserved g c =
    let settings = c.args.worker.now.settings in
    let w = stands c.args.worker.now c.args.rows.now.columns.items c.args.rows.now.loose.items
    (g.T.WithOutbox.committed c.args.rows.now.table) in
    let x = stands c.loop.worker c.loop.rows.columns.items c.loop.rows.loose.items
    (g.T.WithOutbox.committed c.loop.rows.table) in
    let y = stands c.make_pass.new.worker c.make_pass.new.rows.columns.items c.make_pass.new.rows.loose.items
    (g.T.WithOutbox.committed c.make_pass.new.rows.table) in
    record {
      settings = c.make_pass.ensures.settings ∙ c.loop.invariant.settings;
      same_search = c.make_pass.ensures.same_search ∙ c.loop.invariant.same_search;
      forwards = forwards_both settings c.args.connection.now c.loop.connection c.make_pass.new.connection
          (g.T.WithOutbox.committed c.args.rows.now.table) (g.T.WithOutbox.committed c.loop.rows.table)
          (g.T.WithOutbox.committed c.make_pass.new.rows.table) w x y c.loop.invariant.forwards
          (subst (λ (s : Settings). Forwards s c.loop.connection (g.T.WithOutbox.committed c.loop.rows.table) x
          c.make_pass.new.connection (g.T.WithOutbox.committed c.make_pass.new.rows.table) y)
          c.loop.invariant.settings c.in_ok-asked.ensures.ok);
    }
