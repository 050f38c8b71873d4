use Rattle.std.proofs.Common.{◌∙◌, arith, refl}
use Rattle.std.proofs.lemmas.Result.{err_from_is_err_and}
use Rattle.worker.specs.Session.{standing_of}
use Rattle.worker.specs.declared.worker.Progress.TheVariants.{GoesOn, Stopped}
use Rattle.worker.proofs.SessionLemmas.{rounds_none, turns_on, ran_stopped, breaks}
use Rattle.worker.proofs.worker.Worker.run.Goals as goal

pub loop-round-init : goal.loop-round-init
loop-round-init g c = record {
  settings = refl;
  made = rounds_none g.H.Handler.with_verdict g.H.Handler.with_commit c.args.self.now.settings c.args.connection.now
      (standing_of c.args.self.now (g.H.Handler.history c.args.handler.now));
}

pub returns-in_err-round-clause-err : goal.returns-in_err-round-clause-err
returns-in_err-round-clause-err g c =
    let h = g.H.Handler.history in
    let p = err_from_is_err_and c.from_residual.result c.from_residual.ensures.1 in
    rw (p.1, p.2)
    (breaks g.H.Handler.with_verdict g.H.Handler.with_commit c.args.self.now.settings
    c.loop-round.self.settings c.loop-round.invariant.settings
    c.args.connection.now c.loop-round.connection c.round.new.connection
    (standing_of c.args.self.now (h c.args.handler.now)) (standing_of c.loop-round.self (h c.loop-round.handler))
    (standing_of c.round.new.self (h c.round.new.handler)) c.args.rounds c.loop-round._round c.in_err-round.field-0.0
    (omega (arith, c.loop-round-test.true)) c.loop-round.invariant.made c.in_err-round.ensures.err)

pub returns-in-Stopped-clause-ok : goal.returns-in-Stopped-clause-ok
returns-in-Stopped-clause-ok g c =
    let h = g.H.Handler.history in
    let w = standing_of c.args.self.now (h c.args.handler.now) in
    let x = standing_of c.round.new.self (h c.round.new.handler) in
    ran_stopped g.H.Handler.with_verdict g.H.Handler.with_commit c.args.self.now.settings
    c.args.connection.now c.round.new.connection w x c.args.rounds c.loop-round._round
    (omega (arith, c.loop-round-test.true))
    (turns_on g.H.Handler.with_verdict g.H.Handler.with_commit c.args.self.now.settings
    c.loop-round.self.settings c.loop-round.invariant.settings
    c.args.connection.now c.loop-round.connection c.round.new.connection
    w (standing_of c.loop-round.self (h c.loop-round.handler)) x
    c.loop-round._round c.in_ok-round.round.asked Stopped c.loop-round.invariant.made
    (rw c.in-Stopped.is at c.in_ok-round.ensures.ok))

pub loop-round-preserved : goal.loop-round-preserved
loop-round-preserved g c =
    let h = g.H.Handler.history in
    record {
      settings = c.round.ensures.settings ∙ c.loop-round.invariant.settings;
      made = turns_on g.H.Handler.with_verdict g.H.Handler.with_commit c.args.self.now.settings
          c.loop-round.self.settings c.loop-round.invariant.settings
          c.args.connection.now c.loop-round.connection c.round.new.connection
          (standing_of c.args.self.now (h c.args.handler.now)) (standing_of c.loop-round.self (h c.loop-round.handler))
          (standing_of c.round.new.self (h c.round.new.handler))
          c.loop-round._round c.in_ok-round.round.asked GoesOn c.loop-round.invariant.made
          (rw c.in-GoesOn.is at c.in_ok-round.ensures.ok);
    }
