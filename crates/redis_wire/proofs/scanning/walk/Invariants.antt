use Rattle.std.proofs.Common.{◌+◌, ◌*◌, length}
use Rattle.redis_wire.specs.Scan.{Walked}
use Rattle.redis_wire.proofs.scanning.walk.Given as goal

abbrev pub invariant-loop-inner : goal.invariant-loop-inner
invariant-loop-inner l = Walked l.limits l.count l.inner l.outer.items l.bytes l.rest

-- An item has at least one byte, and opens at most one group.
abbrev pub decreases-loop-inner : goal.decreases-loop-inner
decreases-loop-inner l = 2 * length l.rest + length l.outer.items
