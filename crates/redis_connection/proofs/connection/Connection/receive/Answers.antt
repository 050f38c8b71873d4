use Rattle.redis_wire.specs.Reply.{answer}
use Rattle.redis_connection.proofs.PassingLemmas.{passes_on}
use Rattle.redis_connection.proofs.connection.Connection.receive.Goals as goal

pub loop-turn-preserved : goal.loop-turn-preserved
loop-turn-preserved g c =
    passes_on c.args.self.now c.loop-turn.self c.receive_any.new.self c.count_message.new.self
    (answer c.in_ok-reply.reply) c.loop-turn.invariant c.in_ok-reply.ensures.ok
    (c.is_message.ensures.0 c.if-not-is_message.false) c.count_message.ensures
