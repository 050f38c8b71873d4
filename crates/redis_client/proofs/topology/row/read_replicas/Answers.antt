use Rattle.std.proofs.Common.{◌≡◌, ◌++◌, [], ◌∷◌, arith, map}
use Rattle.std.proofs.lemmas.Grind.{common_steps}
use Rattle.redis_resp.proofs.ReadLemmas.{read_next}
use Rattle.redis_client.specs.Topology.Topology.{slots_node}
use Rattle.redis_client.specs.Topology.TopologyMeaning.{node_meaning}
use Rattle.redis_client.proofs.topology.row.read_replicas.Goals as goal

pub loop-member-preserved : goal.loop-member-preserved
loop-member-preserved g c =
    let pushed : map node_meaning c.push.new.self.items ≡ map node_meaning c.loop-member.nodes.items
    ++ node_meaning c.in_ok-read_replica.field-0 ∷ [] = grind (arith, common_steps) in
    read_next slots_node (g.S.Source.values_left c.args.members) _ _
    (g.S.Source.seen c.in-Some.member) _ _ _ c.in-Some.ensures c.in_ok-read_replica.ensures.ok pushed c.loop-member.invariant
