use Rattle.std.proofs.Common.{sym, ◌∙◌}
use Rattle.redis_connection.proofs.PassingLemmas.{stands_as_answer, passes_in_place, true_false}
use Rattle.redis_connection.proofs.connection.Connection.receive_in_place.Goals as goal

pub returns-then-not-begins_as_message-clause-ok : goal.returns-then-not-begins_as_message-clause-ok
returns-then-not-begins_as_message-clause-ok g c =
    stands_as_answer c.args.self.now c.loop-turn.self c.find_reply.new.self c.in_ok-len.len c.received.result.now
    c.loop-turn.invariant c.in_ok-len.ensures.ok c.received.ensures.within
    (λ begins. true_false (sym (c.begins_as_message.ensures.1 begins) ∙ c.if-not-begins_as_message.true))

pub loop-turn-preserved : goal.loop-turn-preserved
loop-turn-preserved g c =
    passes_in_place c.args.self.now c.loop-turn.self c.find_reply.new.self c.give_out.new.self c.count_message.new.self
    c.in_ok-len.len c.received.result.now c.loop-turn.invariant c.in_ok-len.ensures.ok c.received.ensures.within
    (c.begins_as_message.ensures.0 c.if-not-begins_as_message.false)
    c.give_out.ensures.receives c.count_message.ensures
