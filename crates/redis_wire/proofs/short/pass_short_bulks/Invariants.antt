use Rattle.std.proofs.Common.{◌≤◌, ◌+◌, ◌*◌, length}
use Rattle.redis_wire.specs.Scan.{ArePassed}
use Rattle.redis_wire.proofs.short.pass_short_bulks.Given as goal

abbrev pub invariant-loop-passed : goal.invariant-loop-passed
invariant-loop-passed l = record {
  few : l.passed ≤ l.most;
  pass : ArePassed l.limits l.bytes l.passed l.rest;
  shorter : length l.rest + 3 * l.passed ≤ length l.bytes;
}

abbrev pub decreases-loop-passed : goal.decreases-loop-passed
decreases-loop-passed l = length l.rest
