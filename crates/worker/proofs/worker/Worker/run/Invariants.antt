use Rattle.std.proofs.Common.{◌≡◌}
use Rattle.worker.specs.Session.{Rounds, standing_of}
use Rattle.worker.specs.declared.worker.Progress.TheVariants.{GoesOn}
use Rattle.worker.proofs.worker.Worker.run.Given as goal

-- so many rounds were made, and the worker goes on after each
abbrev pub invariant-loop-round : goal.invariant-loop-round
invariant-loop-round g l = record {
  settings : l.self.settings ≡ l.fn.self.settings;
  made : Rounds g.H.Handler.with_verdict g.H.Handler.with_commit l.fn.self.settings l.fn.connection l.connection
      (standing_of l.fn.self (g.H.Handler.history l.fn.handler)) (standing_of l.self (g.H.Handler.history l.handler))
      l._round GoesOn;
}
