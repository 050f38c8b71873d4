use Rattle.std.proofs.Common.{inl, subst}
use Rattle.std.proofs.lemmas.Result.{err_from_is_err_and}
use Rattle.worker.specs.Pipelined.{BreaksBoth, TakesBoth}
use Rattle.worker.specs.Session.{standing_of}
use Rattle.worker.specs.declared.state.Settings.{Settings}
use Rattle.worker.proofs.PipelinedLemmas.{broke_both, broke_unsent, went_both}
use Rattle.worker.proofs.RoundLemmas.{breaks_so, turned}
use Rattle.worker.proofs.worker.Worker.try_pipelined.Goals as goal

pub returns-in_err-send_both-clause-err : goal.returns-in_err-send_both-clause-err
returns-in_err-send_both-clause-err g c =
    let h = g.H.Handler.history in
    let p = err_from_is_err_and c.from_residual.result c.from_residual.ensures.1 in
    rw (p.1, p.2)
    (broke_unsent g.H.Handler.with_verdict g.H.Handler.with_commit c.args.self.now.settings c.args.connection.now
    c.send_both.new.connection (standing_of c.args.self.now (h c.args.handler.now))
    (standing_of c.send_both.new.self (h c.send_both.new.handler)) c.in_err-send_both.field-0.0
    c.in_err-send_both.ensures.err)

pub returns-in_err-progress-in-None-clause-err : goal.returns-in_err-progress-in-None-clause-err
returns-in_err-progress-in-None-clause-err g c =
    let h = g.H.Handler.history in
    let p = err_from_is_err_and c.from_residual-in_err-progress-in-None.result
    c.from_residual-in_err-progress-in-None.ensures.1 in
    rw (p.1, p.2)
    (inl (breaks_so g.H.Handler.with_verdict g.H.Handler.with_commit c.args.self.now.settings c.args.connection.now
    c.send_both.new.connection c.take_next.new.connection (standing_of c.args.self.now (h c.args.handler.now))
    (standing_of c.send_both.new.self (h c.send_both.new.handler))
    (standing_of c.take_next.new.self (h c.take_next.new.handler)) (rw c.in-None.is at c.in_ok-send_both.ensures.ok)
    c.send_both.new.self.settings c.send_both.ensures.settings c.in_err-progress-in-None.field-0.0
    c.in_err-progress-in-None.ensures.err))

pub returns-in_err-round-in-Some-clause-err : goal.returns-in_err-round-in-Some-clause-err
returns-in_err-round-in-Some-clause-err g c =
    let h = g.H.Handler.history in
    let y = standing_of c.send_both.new.self (h c.send_both.new.handler) in
    let x = standing_of c.take_both.new.self (h c.take_both.new.handler) in
    let sent = rw c.in-Some.is at c.in_ok-send_both.ensures.ok in
    let p = err_from_is_err_and c.from_residual-in_err-round-in-Some.result
    c.from_residual-in_err-round-in-Some.ensures.1 in
    rw (p.1, p.2)
    (broke_both g.H.Handler.with_verdict g.H.Handler.with_commit c.args.self.now.settings c.args.connection.now
    c.send_both.new.connection (standing_of c.args.self.now (h c.args.handler.now)) y sent.0 sent.1 sent.3
    c.take_both.new.connection x c.in-Some.next c.in_err-round-in-Some.field-0.0 sent.2
    (subst (λ (v : Settings). BreaksBoth g.H.Handler.with_verdict v c.send_both.new.connection
    c.take_both.new.connection y x c.in-Some.next c.in_err-round-in-Some.field-0.0) c.send_both.ensures.settings
    c.in_err-round-in-Some.ensures.err))

pub returns-in_ok-progress-in-None-clause-ok : goal.returns-in_ok-progress-in-None-clause-ok
returns-in_ok-progress-in-None-clause-ok g c =
    let h = g.H.Handler.history in
    turned g.H.Handler.with_verdict g.H.Handler.with_commit c.args.self.now.settings c.args.connection.now
    c.send_both.new.connection c.take_next.new.connection (standing_of c.args.self.now (h c.args.handler.now))
    (standing_of c.send_both.new.self (h c.send_both.new.handler))
    (standing_of c.take_next.new.self (h c.take_next.new.handler)) (rw c.in-None.is at c.in_ok-send_both.ensures.ok)
    c.send_both.new.self.settings c.send_both.ensures.settings c.asked-asked.result c.in_ok-progress-in-None.progress
    c.asked-asked.ensures c.in_ok-progress-in-None.ensures.ok

pub returns-in_ok-round-in-Some-clause-ok : goal.returns-in_ok-round-in-Some-clause-ok
returns-in_ok-round-in-Some-clause-ok g c =
    let h = g.H.Handler.history in
    let y = standing_of c.send_both.new.self (h c.send_both.new.handler) in
    let x = standing_of c.take_both.new.self (h c.take_both.new.handler) in
    let sent = rw c.in-Some.is at c.in_ok-send_both.ensures.ok in
    went_both g.H.Handler.with_verdict g.H.Handler.with_commit c.args.self.now.settings c.args.connection.now
    c.send_both.new.connection (standing_of c.args.self.now (h c.args.handler.now)) y sent.0 sent.1 sent.3
    c.take_both.new.connection x c.in-Some.next c.in_ok-round-in-Some.round.asked
    c.in_ok-round-in-Some.round.progress sent.2
    (subst (λ (v : Settings). TakesBoth g.H.Handler.with_verdict v c.send_both.new.connection
    c.take_both.new.connection y x c.in-Some.next c.in_ok-round-in-Some.round.asked
    c.in_ok-round-in-Some.round.progress) c.send_both.ensures.settings c.in_ok-round-in-Some.ensures.ok)
