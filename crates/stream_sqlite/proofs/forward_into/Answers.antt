use Rattle.std.proofs.Common.{◌≡◌, ◌⊎◌, inr}
use Rattle.worker_table.specs.Forwarded.{forwarding_kept}
use Rattle.worker_table.specs.RowTable.OfPost.{all_posted}
use Rattle.stream_sqlite.specs.Program.{SendsAll, SendsSome, settings_with}
use Rattle.stream_sqlite.proofs.ProgramLemmas.{all_are_some, failed_after, well_after}
use Rattle.stream_sqlite.proofs.forward_into.Goals as goal

pub returns-clause-ok : goal.returns-clause-ok
returns-clause-ok g c =
    let settings = settings_with c.args.work.dead c.args.work.settings in
    let kept = forwarding_kept c.args.rows.columns.items (all_posted c.args.rows.loose.items)
    (g.O.WithOutbox.committed c.args.rows.table) in
    well_after c.forward_over-ended.result c.end_after.result
    (SendsAll settings kept c.args.connection.now c.forward_over-ended.new.connection)
    c.end_after.ensures c.forward_over-ended.ensures.ok

pub returns-clause-err : goal.returns-clause-err
returns-clause-err g c =
    let settings = settings_with c.args.work.dead c.args.work.settings in
    let kept = forwarding_kept c.args.rows.columns.items (all_posted c.args.rows.loose.items)
    (g.O.WithOutbox.committed c.args.rows.table) in
    let old = c.args.connection.now in
    let new = c.forward_over-ended.new.connection in
    failed_after c.forward_over-ended.result c.end_after.result (SendsAll settings kept old new)
    c.forward_over-ended.ensures.ok ((new ≡ old) ⊎ SendsSome settings kept old new)
    (λ all. inr (all_are_some settings kept old new all)) c.forward_over-ended.ensures.err
