use Rattle.std.proofs.Common.{◌≡◌}
use Rattle.worker_producer.specs.Machine.{idle, standing_of}
use Rattle.worker_producer.specs.Session.{Rounds}
use Rattle.worker_producer.proofs.producer.Producer.run.Given as goal

-- this number of rounds were made
abbrev pub invariant-loop-round : goal.invariant-loop-round
invariant-loop-round g l = record {
  settings : l.self.settings ≡ l.fn.self.settings;
  records : g.S.Source.records l.source ≡ g.S.Source.records l.fn.source;
  made : Rounds l.fn.self.settings (g.S.Source.records l.fn.source) l.fn.count l._round l.fn.connection l.connection
      idle (standing_of l.self);
}
