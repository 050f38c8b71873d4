use Rattle.std.proofs.Common.{◌≡◌, ◌++◌, map, take}
use Rattle.stream_options.proofs.options.group.KeptArgsToRedisArgs.write_redis_args.Given as goal

-- the arguments so far have been written
abbrev pub invariant-loop-arg : goal.invariant-loop-arg
invariant-loop-arg g l =
    g.W.RedisWrite.written l.out ≡ g.W.RedisWrite.written l.initial.out
    ++ map (λ arg. arg.items) (take l.arg-index l.self.0.items)
