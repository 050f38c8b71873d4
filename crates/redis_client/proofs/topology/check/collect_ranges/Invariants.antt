use Rattle.std.proofs.Common.{◌≡◌, take, map}
use Rattle.redis_client.specs.Topology.Topology.{ranges_in}
use Rattle.redis_client.specs.Topology.TopologyMeaning.{shard_meaning}
use Rattle.redis_client.proofs.topology.check.collect_ranges.Given as goal

-- the ranges of the shards so far
abbrev pub invariant-loop-shard : goal.invariant-loop-shard
invariant-loop-shard l = l.ranges.items ≡ ranges_in (map shard_meaning (take l.shard-index l.shards))
