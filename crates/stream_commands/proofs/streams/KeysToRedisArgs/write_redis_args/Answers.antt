use Rattle.redis_args.proofs.WriterLemmas.{wrote_at_exit, stops_in_element}
use Rattle.stream_commands.proofs.streams.KeysToRedisArgs.write_redis_args.Goals as goal

pub returns-in_err-write_redis_args : goal.returns-in_err-write_redis_args
returns-in_err-write_redis_args g c = wrote_at_exit _ c.from_residual.ensures.1
    (stops_in_element
    (λ s. g.K.ToRedisArgs.args s.0) _ c.loop-stream.stream-index c.stream-item.result c.loop-stream-test.true
    c.stream-item.is c.loop-stream.invariant c.in_err-write_redis_args.ensures)
