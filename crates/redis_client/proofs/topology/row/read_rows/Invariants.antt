use Rattle.std.proofs.Common.{length, map}
use Rattle.redis_resp.proofs.ReadLemmas.{ReadSoFar}
use Rattle.redis_client.specs.Topology.Topology.{row_reading}
use Rattle.redis_client.specs.Topology.TopologyMeaning.{shard_meaning}
use Rattle.redis_client.proofs.topology.row.read_rows.Given as goal

abbrev pub invariant-loop-row : goal.invariant-loop-row
invariant-loop-row g l = ReadSoFar row_reading (g.S.Source.values_left l.initial.rows) (g.S.Source.values_left l.rows)
    (map shard_meaning l.shards.items)

abbrev pub decreases-loop-row : goal.decreases-loop-row
decreases-loop-row g l = length (g.S.Source.values_left l.rows)
