use Rattle.std.proofs.lemmas.Result.{err_from_is_err_and}
use Rattle.redis_wire.specs.Reply.{answer}
use Rattle.redis_connection.proofs.AskLemmas.{no_answer}
use Rattle.redis_connection.proofs.connection.Connection.ask_as.Goals as goal

pub returns-in_err-from_reply-clause-err : goal.returns-in_err-from_reply-clause-err
returns-in_err-from_reply-clause-err g c =
    let p = err_from_is_err_and c.from_residual-in_err-from_reply.result c.from_residual-in_err-from_reply.ensures.1 in
    rw (p.1, p.2)
    (no_answer g.M.FromRedisValue.reading g.M.FromRedisValue.may_refuse g.M.FromRedisValue.meaning c.args.self.now
    c.receive.new.self
    (g.T.ToRedisArgs.args c.args.command.now) c.send.new.self
    (answer c.in_ok-reply.reply) c.in_err-from_reply.field-0.0 c.in_ok-send.ensures.ok c.in_ok-reply.ensures.ok
    c.in_err-from_reply.ensures)
