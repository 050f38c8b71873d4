use Rattle.stream_commands.proofs.streams.StreamsToRedisArgs.write_redis_args.Goals as goal

pub returns : goal.returns
returns g c = rw c.first-first.ensures at (rw c.rest-rest.ensures at c.write_redis_args.ensures)
