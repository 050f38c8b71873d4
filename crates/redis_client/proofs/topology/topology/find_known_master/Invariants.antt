use Rattle.std.proofs.Common.{◌≡◌, length, map}
use Rattle.std.specs.List.{find}
use Rattle.redis_client.specs.Topology.Topology.{is_known_master}
use Rattle.redis_client.specs.Topology.TopologyMeaning.{node_meaning}
use Rattle.redis_client.proofs.topology.topology.find_known_master.Given as goal

-- the first is among those that are left
abbrev pub invariant-loop-node : goal.invariant-loop-node
invariant-loop-node l = find is_known_master (map node_meaning l.left)
    ≡ find is_known_master (map node_meaning l.nodes)

abbrev pub decreases-loop-node : goal.decreases-loop-node
decreases-loop-node l = length l.left
