use Rattle.std.proofs.Common.{◌≡◌, ◌++◌, take}
use Rattle.std.specs.List.{flat_map}
use Rattle.redis_args.proofs.containers.RefSliceToRedisArgs.write_redis_args.Given as goal

-- the arguments of the elements so far have been written
abbrev pub invariant-loop-item : goal.invariant-loop-item
invariant-loop-item g l = g.W.RedisWrite.written l.out ≡ g.W.RedisWrite.written l.initial.out
    ++ flat_map g.T.ToRedisArgs.args (take l.item-index l.self.now)
