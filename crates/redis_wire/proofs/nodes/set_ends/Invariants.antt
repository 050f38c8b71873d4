use Rattle.std.proofs.Common.{◌≡◌, ◌≤◌, drop, length}
use Rattle.std.specs.Prelude.{map}
use Rattle.redis_wire.specs.Nodes.{AreEnds, plain}
use Rattle.redis_wire.proofs.nodes.set_ends.Given as goal

-- the ends of the nodes from `at` on are set
abbrev pub invariant-loop-at : goal.invariant-loop-at
invariant-loop-at l = record {
  within : l.at ≤ length l.nodes;
  same : map plain l.nodes ≡ map plain l.fn.nodes;
  ends : AreEnds l.at (drop l.at l.nodes);
}

abbrev pub decreases-loop-at : goal.decreases-loop-at
decreases-loop-at l = l.at
