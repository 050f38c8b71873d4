use Rattle.std.proofs.Common.{ap}
use Rattle.worker_producer.specs.Machine.{stage_of, standing_of}
use Rattle.worker_producer.proofs.LineLemmas.{line_heard}
use Rattle.worker_producer.proofs.producer.Producer.take_if_line.Goals as goal

pub returns-else-not-is_line-clause-taken : goal.returns-else-not-is_line-clause-taken
returns-else-not-is_line-clause-taken g c is base count =
    line_heard base count c.args.connection.now c.receive_in_place.new.connection c.give_out.new.self c.in-Ok.len
    c.received.result.now (standing_of c.args.self.now) (standing_of c.count_reply.new.self) c.in-Ok.ensures.ok
    c.received.ensures.within (c.is_line.ensures.0 c.if-not-is_line.false) c.give_out.ensures.receives c.requires c.count_reply.ensures.coming
    (ap stage_of c.count_reply.ensures.stage)
