use Rattle.std.proofs.Common.{◌≡◌, length, map}
use Rattle.std.specs.List.{find}
use Rattle.redis_client.specs.Topology.Topology.{has_slot}
use Rattle.redis_client.specs.Topology.TopologyMeaning.{shard_meaning}
use Rattle.redis_client.proofs.topology.topology.find_shard.Given as goal

-- the first is among those that are left
abbrev pub invariant-loop-shard : goal.invariant-loop-shard
invariant-loop-shard l = find (λ s. has_slot s l.slot) (map shard_meaning l.left)
    ≡ find (λ s. has_slot s l.slot) (map shard_meaning l.shards)

abbrev pub decreases-loop-shard : goal.decreases-loop-shard
decreases-loop-shard l = length l.left
