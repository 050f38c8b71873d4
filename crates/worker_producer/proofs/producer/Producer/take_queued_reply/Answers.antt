use Rattle.std.proofs.Common.{Ok, ap}
use Rattle.worker_producer.specs.Machine.{standing_of}
use Rattle.worker_producer.specs.declared.producer.Producer.{Producer}
use Rattle.worker_producer.proofs.LineLemmas.{heard_after, failed_after}
use Rattle.worker_producer.proofs.producer.Producer.take_queued_reply.Goals as goal

pub returns-in-Ok-false-clause-ok : goal.returns-in-Ok-false-clause-ok
returns-in-Ok-false-clause-ok g c =
    let same = c.in-Ok-false.ensures.same (ap Ok c.in-Ok-false.field-0-test) in
    heard_after c.receive_reply.result c.take_if_line.new.self.settings.base c.args.self.now.settings.base c.args.count
    c.args.connection.now c.take_if_line.new.connection c.receive_reply.new.connection (standing_of c.args.self.now)
    (standing_of c.take_if_line.new.self) (standing_of c.receive_reply.new.self)
    (ap (λ (p : Producer). p.settings.base) same) (ap standing_of same) (c.in-Ok-false.ensures.held (ap Ok c.in-Ok-false.field-0-test))
    c.receive_reply.ensures.ok

pub returns-in-Ok-false-clause-err : goal.returns-in-Ok-false-clause-err
returns-in-Ok-false-clause-err g c =
    let same = c.in-Ok-false.ensures.same (ap Ok c.in-Ok-false.field-0-test) in
    failed_after c.receive_reply.result c.take_if_line.new.self.settings.base c.args.self.now.settings.base c.args.count
    c.args.connection.now c.take_if_line.new.connection c.receive_reply.new.connection (standing_of c.args.self.now)
    (standing_of c.take_if_line.new.self) (ap (λ (p : Producer). p.settings.base) same) (ap standing_of same)
    (c.in-Ok-false.ensures.held (ap Ok c.in-Ok-false.field-0-test)) c.receive_reply.ensures.err

pub returns-in-Err-clause-err : goal.returns-in-Err-clause-err
returns-in-Err-clause-err g c = c.in-Err.ensures.err c.args.self.now.settings.base c.args.count
