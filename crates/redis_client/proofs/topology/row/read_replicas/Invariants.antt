use Rattle.std.proofs.Common.{length, map}
use Rattle.redis_resp.proofs.ReadLemmas.{ReadSoFar}
use Rattle.redis_client.specs.Topology.Topology.{slots_node}
use Rattle.redis_client.specs.Topology.TopologyMeaning.{node_meaning}
use Rattle.redis_client.proofs.topology.row.read_replicas.Given as goal

abbrev pub invariant-loop-member : goal.invariant-loop-member
invariant-loop-member g l = ReadSoFar slots_node (g.S.Source.values_left l.initial.members) (g.S.Source.values_left l.members)
    (map node_meaning l.nodes.items)

abbrev pub decreases-loop-member : goal.decreases-loop-member
decreases-loop-member g l = length (g.S.Source.values_left l.members)
