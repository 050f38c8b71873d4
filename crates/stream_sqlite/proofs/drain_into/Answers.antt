use Rattle.std.proofs.Common.{◌≡◌, ◌⊎◌, inr}
use Rattle.model_workers.specs.Loops.Loop.{Drains, Loops}
use Rattle.worker_table.specs.Kept.{kept_by}
use Rattle.stream_sqlite.specs.Program.{IsRun, settings_with}
use Rattle.stream_sqlite.proofs.ProgramLemmas.{failed_after, run_drains, well_after}
use Rattle.stream_sqlite.proofs.drain_into.Goals as goal

pub returns-clause-ok : goal.returns-clause-ok
returns-clause-ok g c =
    let settings = settings_with c.args.work.dead c.args.work.settings in
    let kept = kept_by c.args.rows.columns.items c.args.rows.loose.items (g.T.Table.committed c.args.rows.table) in
    well_after c.drain_over-ended.result c.end_after.result
    (IsRun settings Loops kept c.args.connection.now c.drain_over-ended.new.connection)
    c.end_after.ensures c.drain_over-ended.ensures.ok

pub returns-clause-err : goal.returns-clause-err
returns-clause-err g c =
    let settings = settings_with c.args.work.dead c.args.work.settings in
    let kept = kept_by c.args.rows.columns.items c.args.rows.loose.items (g.T.Table.committed c.args.rows.table) in
    let old = c.args.connection.now in
    let new = c.drain_over-ended.new.connection in
    failed_after c.drain_over-ended.result c.end_after.result (IsRun settings Loops kept old new)
    c.drain_over-ended.ensures.ok ((new ≡ old) ⊎ IsRun settings Drains kept old new)
    (λ run. inr (run_drains settings kept old new run)) c.drain_over-ended.ensures.err
