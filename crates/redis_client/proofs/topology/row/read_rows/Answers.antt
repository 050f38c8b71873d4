use Rattle.std.proofs.Common.{◌≡◌, ◌++◌, [], ◌∷◌, arith, map}
use Rattle.std.proofs.lemmas.Grind.{common_steps}
use Rattle.redis_resp.proofs.ReadLemmas.{read_next}
use Rattle.redis_client.specs.Topology.Topology.{row_reading}
use Rattle.redis_client.specs.Topology.TopologyMeaning.{shard_meaning}
use Rattle.redis_client.proofs.topology.row.read_rows.Goals as goal

pub loop-row-preserved : goal.loop-row-preserved
loop-row-preserved g c =
    let pushed : map shard_meaning c.push.new.self.items ≡ map shard_meaning c.loop-row.shards.items
    ++ shard_meaning c.in_ok-read_row.field-0 ∷ [] = grind (arith, common_steps) in
    read_next row_reading (g.S.Source.values_left c.args.rows) _ _
    (g.S.Source.seen c.in-Some.row) _ _ _ c.in-Some.ensures c.in_ok-read_row.ensures.ok pushed c.loop-row.invariant
