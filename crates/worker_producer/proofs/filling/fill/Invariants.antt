use Rattle.std.proofs.Common.{◌≡◌}
use Rattle.std.specs.Option.{ForSome}
use Rattle.worker_producer.specs.Ahead.{IsPrepared}
use Rattle.worker_producer.specs.Confirmed.{ConfirmedRounds}
use Rattle.worker_producer.specs.Machine.{idle, standing_of}
use Rattle.worker_producer.proofs.filling.fill.Given as goal

-- so many rounds were made
abbrev pub invariant-loop-round : goal.invariant-loop-round
invariant-loop-round g l = record {
  settings : l.producer.settings ≡ l.fn.settings;
  records : g.S.Source.records l.source ≡ g.S.Source.records l.fn.source;
  made : ConfirmedRounds l.fn.wait l.fn.settings (g.S.Source.records l.fn.source) l.fn.count l._round l.fn.connection l.connection
      idle (standing_of l.producer);
  ahead : ForSome l.ahead (IsPrepared l.fn.settings (g.S.Source.records l.fn.source));
}
