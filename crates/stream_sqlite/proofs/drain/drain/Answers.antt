use Rattle.std.proofs.Common.{◌∙◌, refl, subst, List, Option}
use Rattle.worker_table.specs.RowTable.Rows.{Row}
use Rattle.worker_table.specs.declared.row_table.cell.Column.{Column}
use Rattle.worker_table.specs.declared.row_table.row.Row as memory
use Rattle.worker.specs.Session.{Standing, standing_of}
use Rattle.worker.specs.declared.state.Settings.{Settings}
use Rattle.worker.specs.declared.worker.Worker.{Worker}
use Rattle.model_workers.specs.Loops.Loop.{Loops, Stops}
use Rattle.worker_table.specs.Lived.{Leads}
use Rattle.worker_table.specs.Kept.{Kept, kept_by}
use Rattle.worker_table.proofs.LivedLemmas.{leads_both, leads_end, leads_same, leads_stop}
use Rattle.worker.proofs.DeadLettersLemmas.DeadLemmas.{on_err}
use Rattle.stream_sqlite.proofs.drain.drain.Goals as goal

-- where a worker stands, with what its handler keeps
abbrev stands : Worker → List Column → List memory.Row → Option (List Row) → Standing Kept
stands w columns loose known = standing_of w (kept_by columns loose known)

pub returns-in_err-last-clause-err : goal.returns-in_err-last-clause-err
returns-in_err-last-clause-err g c =
    let settings = c.args.worker.now.settings in
    let w = stands c.args.worker.now c.args.rows.now.columns.items c.args.rows.now.loose.items
    (g.T.Table.committed c.args.rows.now.table) in
    let x = stands c.loop.worker c.loop.rows.columns.items c.loop.rows.loose.items
    (g.T.Table.committed c.loop.rows.table) in
    let y = stands c.make_turn.new.worker c.make_turn.new.rows.columns.items c.make_turn.new.rows.loose.items
    (g.T.Table.committed c.make_turn.new.rows.table) in
    on_err c.from_residual.result
    (leads_stop settings c.args.connection.now c.loop.connection c.make_turn.new.connection w x y c.loop.invariant.leads
    (subst (λ (s : Settings). Leads (Stops s) c.loop.connection c.make_turn.new.connection x y)
    c.loop.invariant.settings c.in_err-last.ensures.err))

pub returns-then-rows-last-clause-ok : goal.returns-then-rows-last-clause-ok
returns-then-rows-last-clause-ok g c =
    let settings = c.args.worker.now.settings in
    let w = stands c.args.worker.now c.args.rows.now.columns.items c.args.rows.now.loose.items
    (g.T.Table.committed c.args.rows.now.table) in
    let x = stands c.loop.worker c.loop.rows.columns.items c.loop.rows.loose.items
    (g.T.Table.committed c.loop.rows.table) in
    let y = stands c.make_turn.new.worker c.make_turn.new.rows.columns.items c.make_turn.new.rows.loose.items
    (g.T.Table.committed c.make_turn.new.rows.table) in
    leads_both settings c.args.connection.now c.loop.connection c.make_turn.new.connection w x y c.loop.invariant.leads
    (subst (λ (s : Settings). Leads (Loops s) c.loop.connection c.make_turn.new.connection x y)
    c.loop.invariant.settings c.in_ok-last.ensures.ok)

pub returns-clause-err : goal.returns-clause-err
returns-clause-err g c =
    let w = stands c.args.worker.now c.args.rows.now.columns.items c.args.rows.now.loose.items
    (g.T.Table.committed c.args.rows.now.table) in
    let x = stands c.loop.worker c.loop.rows.columns.items c.loop.rows.loose.items
    (g.T.Table.committed c.loop.rows.table) in
    leads_end c.args.worker.now.settings c.args.connection.now c.loop.connection w x c.loop.invariant.leads

pub loop-init : goal.loop-init
loop-init g c =
    let w = stands c.args.worker.now c.args.rows.now.columns.items c.args.rows.now.loose.items
    (g.T.Table.committed c.args.rows.now.table) in
    record { settings = refl; same_search = refl; leads = leads_same c.args.worker.now.settings c.args.connection.now w }

pub loop-preserved : goal.loop-preserved
loop-preserved g c =
    let settings = c.args.worker.now.settings in
    let w = stands c.args.worker.now c.args.rows.now.columns.items c.args.rows.now.loose.items
    (g.T.Table.committed c.args.rows.now.table) in
    let x = stands c.loop.worker c.loop.rows.columns.items c.loop.rows.loose.items
    (g.T.Table.committed c.loop.rows.table) in
    let y = stands c.make_turn.new.worker c.make_turn.new.rows.columns.items c.make_turn.new.rows.loose.items
    (g.T.Table.committed c.make_turn.new.rows.table) in
    record {
      settings = c.make_turn.ensures.settings ∙ c.loop.invariant.settings;
      same_search = c.make_turn.ensures.same_search ∙ c.loop.invariant.same_search;
      leads = leads_both settings c.args.connection.now c.loop.connection c.make_turn.new.connection w x y
          c.loop.invariant.leads
          (subst (λ (s : Settings). Leads (Loops s) c.loop.connection c.make_turn.new.connection x y)
          c.loop.invariant.settings c.in_ok-last.ensures.ok);
    }
