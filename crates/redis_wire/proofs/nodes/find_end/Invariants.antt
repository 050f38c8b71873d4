use Rattle.std.proofs.Common.{◌≡◌, ◌+◌, drop}
use Rattle.redis_wire.specs.Nodes.{taken}
use Rattle.redis_wire.proofs.nodes.find_end.Given as goal

-- `_member` values were passed
abbrev pub invariant-loop-member : goal.invariant-loop-member
invariant-loop-member l = l.end ≡ l.from + taken l._member (drop l.from l.nodes)
