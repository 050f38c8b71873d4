use Rattle.std.proofs.Common.{◌≤◌, length}
use Rattle.redis_wire.specs.Digits.{DigitsAt}
use Rattle.redis_wire.proofs.number.parse_digits.Given as goal

abbrev pub invariant-loop-rest : goal.invariant-loop-rest
invariant-loop-rest l = record {
  so_far : DigitsAt l.bytes l.number l.rest;
  small : l.number ≤ 999_999_999_999_999_999;
}

abbrev pub decreases-loop-rest : goal.decreases-loop-rest
decreases-loop-rest l = length l.rest
