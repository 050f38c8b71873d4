use Rattle.redis_args.proofs.WriterLemmas.{wrote_at_exit}
use Rattle.stream_options.proofs.GroupLemmas.{stops_at_argument}
use Rattle.stream_options.proofs.options.group.KeptArgsToRedisArgs.write_redis_args.Goals as goal

pub returns-in_err-write_arg : goal.returns-in_err-write_arg
returns-in_err-write_arg g c =
    let same = c.deref-arg-items.ensures.value in
    wrote_at_exit _ c.from_residual.ensures.1
    (stops_at_argument c.args.self.now.0.items c.loop-arg.arg-index c.arg-item.result
    (rw same at c.loop-arg-test.true) (rw same at c.arg-item.is) c.loop-arg.invariant
    (rw c.deref.ensures.value at c.in_err-write_arg.ensures.wrote))
