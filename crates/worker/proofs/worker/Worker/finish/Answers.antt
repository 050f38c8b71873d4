use Rattle.std.proofs.Common.{subst}
use Rattle.std.proofs.lemmas.Result.{err_from_is_err_and}
use Rattle.worker.specs.Finish.{Settles, SettlesNot}
use Rattle.worker.specs.Session.{standing_of}
use Rattle.worker.specs.declared.state.Settings.{Settings}
use Rattle.worker.proofs.FinishLemmas.{broke_first, broke_second, finished, on_ok_so}
use Rattle.worker.proofs.WorkerLemmas.{if_err}
use Rattle.worker.proofs.worker.Worker.finish.Goals as goal

pub returns-in_err-settle-clause-err : goal.returns-in_err-settle-clause-err
returns-in_err-settle-clause-err g c =
    let h = g.H.Handler.history in
    let p = err_from_is_err_and c.from_residual.result c.from_residual.ensures.1 in
    rw (p.1, p.2)
    (broke_first g.H.Handler.with_verdict g.H.Handler.with_commit c.args.self.now.settings c.args.connection.now
    c.settle.new.connection (standing_of c.args.self.now (h c.args.handler.now))
    (standing_of c.settle.new.self (h c.settle.new.handler)) c.in_err-settle.field-0.0 c.in_err-settle.ensures.err)

pub returns-clause-ok : goal.returns-clause-ok
returns-clause-ok g c =
    let h = g.H.Handler.history in
    let w = standing_of c.args.self.now (h c.args.handler.now) in
    let y = standing_of c.settle.new.self (h c.settle.new.handler) in
    let x = standing_of c.settle-2.new.self (h c.settle-2.new.handler) in
    on_ok_so c.settle-2.result _ _
    (λ s. finished g.H.Handler.with_verdict g.H.Handler.with_commit c.args.self.now.settings c.args.connection.now
    c.settle.new.connection c.settle-2.new.connection w y x c.in_ok-settle.ensures.ok
    (subst (λ (v : Settings). Settles g.H.Handler.with_verdict g.H.Handler.with_commit v c.settle.new.connection
    c.settle-2.new.connection y x) c.settle.ensures.settings s)) c.settle-2.ensures.ok

pub returns-clause-err : goal.returns-clause-err
returns-clause-err g c =
    let h = g.H.Handler.history in
    let w = standing_of c.args.self.now (h c.args.handler.now) in
    let y = standing_of c.settle.new.self (h c.settle.new.handler) in
    let x = standing_of c.settle-2.new.self (h c.settle-2.new.handler) in
    if_err c.settle-2.result _ _
    (λ e s. broke_second g.H.Handler.with_verdict g.H.Handler.with_commit c.args.self.now.settings
    c.args.connection.now c.settle.new.connection c.settle-2.new.connection w y x e c.in_ok-settle.ensures.ok
    (subst (λ (v : Settings). SettlesNot g.H.Handler.with_verdict g.H.Handler.with_commit v c.settle.new.connection
    c.settle-2.new.connection y x e) c.settle.ensures.settings s)) c.settle-2.ensures.err
