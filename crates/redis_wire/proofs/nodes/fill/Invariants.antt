use Rattle.std.proofs.Common.{◌≤◌, ◌-◌, take, length}
use Rattle.redis_wire.specs.Nodes.{AreNodes}
use Rattle.redis_wire.proofs.nodes.fill.Given as goal

-- `count` nodes were written, and `left` values are still expected
abbrev pub invariant-loop-left : goal.invariant-loop-left
invariant-loop-left l = record {
  within : l.count ≤ length l.nodes;
  end : l.at ≤ length l.bytes;
  are : AreNodes l.limits l.bytes (take l.count l.nodes) l.at l.left;
}

abbrev pub decreases-loop-left : goal.decreases-loop-left
decreases-loop-left l = length l.nodes - l.count
