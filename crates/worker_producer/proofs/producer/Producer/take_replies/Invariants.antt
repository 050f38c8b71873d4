use Rattle.std.proofs.Common.{◌≡◌}
use Rattle.worker_producer.specs.Machine.{standing_of}
use Rattle.worker_producer.specs.Session.{Hears}
use Rattle.worker_producer.proofs.producer.Producer.take_replies.Given as goal

-- this number of replies were received, and each was taken
abbrev pub invariant-loop-reply : goal.invariant-loop-reply
invariant-loop-reply g l = record {
  settings : l.self.settings ≡ l.fn.self.settings;
  heard : Hears l.fn.self.settings.base l.fn.count l._reply l.fn.connection l.connection (standing_of l.fn.self)
      (standing_of l.self);
}
