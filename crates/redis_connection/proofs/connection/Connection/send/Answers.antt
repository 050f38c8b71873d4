use Rattle.redis_connection.proofs.connection.Connection.send.Goals as goal

pub returns-clause-too_long : goal.returns-clause-too_long
returns-clause-too_long g c h = absurd (c.send_bytes.ensures.cause h)
