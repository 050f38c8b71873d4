use Rattle.std.proofs.Common.{length}
use Rattle.redis_resp.specs.Source.{all_left}
use Rattle.redis_resp.proofs.ReadLemmas.{ReadSoFar}
use Rattle.redis_client.specs.Topology.Topology.{range_reading}
use Rattle.redis_client.proofs.topology.range.read_pairs.Given as goal

abbrev pub invariant-loop-first : goal.invariant-loop-first
invariant-loop-first g l = ReadSoFar range_reading
    (all_left g.S.Source.values_left g.S.Source.pairs_left l.initial.left)
    (all_left g.S.Source.values_left g.S.Source.pairs_left l.left) l.ranges.items

abbrev pub decreases-loop-first : goal.decreases-loop-first
decreases-loop-first g l = length (all_left g.S.Source.values_left g.S.Source.pairs_left l.left)
