use Rattle.redis_args.proofs.WriterLemmas.{wrote_at_exit, stops_in_element}
use Rattle.redis_args.proofs.containers.RefSliceToRedisArgs.write_redis_args.Goals as goal

pub returns-in_err-write_redis_args : goal.returns-in_err-write_redis_args
returns-in_err-write_redis_args g c = wrote_at_exit _ c.from_residual.ensures.1
    (stops_in_element g.T.ToRedisArgs.args _ c.loop-item.item-index c.item-item.result c.loop-item-test.true
    c.item-item.is c.loop-item.invariant c.in_err-write_redis_args.ensures)
