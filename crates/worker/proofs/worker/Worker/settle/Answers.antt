use Rattle.std.proofs.Common.{◌∙◌, inl, inr, refl, sym}
use Rattle.std.proofs.lemmas.Result.{err_from_is_err_and}
use Rattle.worker.specs.Session.{standing_of}
use Rattle.worker.proofs.FinishLemmas.{acknowledges}
use Rattle.worker.proofs.worker.Worker.settle.Goals as goal

pub returns-then-is_settled-clause-ok : goal.returns-then-is_settled-clause-ok
returns-then-is_settled-clause-ok g c = inl (sym c.is_settled.ensures ∙ c.if-is_settled.true, refl, refl)

pub returns-in_err-_round-clause-err : goal.returns-in_err-_round-clause-err
returns-in_err-_round-clause-err g c =
    let p = err_from_is_err_and c.from_residual.result c.from_residual.ensures.1 in
    rw (p.1, p.2) (sym c.is_settled.ensures ∙ c.if-is_settled.false, c.in_err-_round.ensures.err)

pub returns-clause-ok : goal.returns-clause-ok
returns-clause-ok g c =
    let h = g.H.Handler.history in
    let due = sym c.is_settled.ensures ∙ c.if-is_settled.false in
    inr (
      due,
      acknowledges g.H.Handler.with_verdict g.H.Handler.with_commit c.args.self.now.settings c.args.connection.now
          c.round.new.connection (standing_of c.args.self.now (h c.args.handler.now))
          (standing_of c.round.new.self (h c.round.new.handler)) due c.in_ok-_round._round.asked
          c.in_ok-_round._round.progress c.in_ok-_round.ensures.ok,
    )
