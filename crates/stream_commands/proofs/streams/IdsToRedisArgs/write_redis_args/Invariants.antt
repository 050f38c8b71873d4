use Rattle.std.proofs.Common.{◌≡◌, ◌++◌, take}
use Rattle.std.specs.List.{flat_map}
use Rattle.stream_commands.proofs.streams.IdsToRedisArgs.write_redis_args.Given as goal

-- those of the streams so far have been written
abbrev pub invariant-loop-stream : goal.invariant-loop-stream
invariant-loop-stream g l =
    g.W.RedisWrite.written l.out
    ≡ g.W.RedisWrite.written l.initial.out
    ++ flat_map (λ s. g.I.ToRedisArgs.args s.1) (take l.stream-index l.self.0.now)
