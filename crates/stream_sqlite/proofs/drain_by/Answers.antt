use Rattle.std.proofs.Common.{rules, ◌≡◌, ◌⊎◌, OnErr, OnOk, Option, String, subst, sym}
use Rattle.std.specs.declared.alloc.Global.{Global}
use Rattle.worker_table.specs.Forwarded.{forwarding_kept}
use Rattle.worker_table.specs.Kept.{kept_by}
use Rattle.worker_table.specs.RowTable.OfPost.{all_posted}
use Rattle.stream_sqlite.specs.Program.{Rounds, RoundsAndEnd, settings_with}
use Rattle.stream_sqlite.proofs.ProgramLemmas.{ends_by, first_forwarded, first_rows, runs_by}
use Rattle.stream_sqlite.proofs.drain_by.Goals as goal

pub returns-clause-ok : goal.returns-clause-ok
returns-clause-ok g c =
    let o = c.args.options in
    let files = g.F.Open.rows c.args.files.now in
    let rows = c.with_columns-rows.result in
    let kept = kept_by rows.columns.items rows.loose.items (g.T.Table.committed rows.table) in
    ends_by c.drain_into.result files o c.args.connection.now c.drain_into.new.connection kept
    (first_rows _ _ _ _ _ (search rules) (search rules) (search rules)) c.drain_into.ensures.ended
    (subst (λ (t : Option (String Global)). OnOk c.drain_into.result (Rounds t (settings_with o.dead o.settings) kept
    c.args.connection.now c.drain_into.new.connection)) (sym c.in-None.is) c.drain_into.ensures.ok)

pub returns-clause-err : goal.returns-clause-err
returns-clause-err g c =
    let o = c.args.options in
    let files = g.F.Open.rows c.args.files.now in
    let rows = c.with_columns-rows.result in
    let old = c.args.connection.now in
    let new = c.drain_into.new.connection in
    let kept = kept_by rows.columns.items rows.loose.items (g.T.Table.committed rows.table) in
    runs_by c.drain_into.result files o old new kept
    (first_rows _ _ _ _ _ (search rules) (search rules) (search rules))
    (subst (λ (t : Option (String Global)). OnErr c.drain_into.result ((new ≡ old)
    ⊎ RoundsAndEnd t (settings_with o.dead o.settings) kept old new)) (sym c.in-None.is) c.drain_into.ensures.err)

pub returns-in-Some-clause-ok : goal.returns-in-Some-clause-ok
returns-in-Some-clause-ok g c =
    let o = c.args.options in
    let files = g.F.Open.rows c.args.files.now in
    let rows = c.new-rows.result in
    let kept = forwarding_kept rows.columns.items (all_posted rows.loose.items) (g.O.WithOutbox.committed rows.table) in
    ends_by c.forward_into.result files o c.args.connection.now c.forward_into.new.connection kept
    (first_forwarded _ _ _ _ _ (search rules) (search rules) (search rules)) c.forward_into.ensures.ended
    (subst (λ (t : Option (String Global)). OnOk c.forward_into.result (Rounds t (settings_with o.dead o.settings) kept
    c.args.connection.now c.forward_into.new.connection)) (sym c.in-Some.is) c.forward_into.ensures.ok)

pub returns-in-Some-clause-err : goal.returns-in-Some-clause-err
returns-in-Some-clause-err g c =
    let o = c.args.options in
    let files = g.F.Open.rows c.args.files.now in
    let rows = c.new-rows.result in
    let old = c.args.connection.now in
    let new = c.forward_into.new.connection in
    let kept = forwarding_kept rows.columns.items (all_posted rows.loose.items) (g.O.WithOutbox.committed rows.table) in
    runs_by c.forward_into.result files o old new kept
    (first_forwarded _ _ _ _ _ (search rules) (search rules) (search rules))
    (subst (λ (t : Option (String Global)). OnErr c.forward_into.result ((new ≡ old)
    ⊎ RoundsAndEnd t (settings_with o.dead o.settings) kept old new)) (sym c.in-Some.is) c.forward_into.ensures.err)
