use Rattle.std.proofs.Common.{◌≡◌, length}
use Rattle.redis_client.specs.Topology.Topology.{all_apart}
use Rattle.redis_client.proofs.topology.check.are_apart.Given as goal

-- the ranges that are left decide
abbrev pub invariant-loop-range : goal.invariant-loop-range
invariant-loop-range l = all_apart l.left ≡ all_apart l.ranges

abbrev pub decreases-loop-range : goal.decreases-loop-range
decreases-loop-range l = length l.left
