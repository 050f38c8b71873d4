use Rattle.std.proofs.Common.{◌≤◌, ◌+◌, length, arith}
use Rattle.redis_wire.proofs.BoundedLemmas.{item_shorter}
use Rattle.redis_wire.proofs.ShortLemmas.{none_passed, one_passed_more}
use Rattle.redis_wire.proofs.short.pass_short_bulks.Goals as goal

pub loop-passed-init : goal.loop-passed-init
loop-passed-init c = record {
  few = omega arith;
  pass = none_passed c.args.limits c.args.bytes.now;
  shorter = omega arith;
}

pub loop-passed-preserved : goal.loop-passed-preserved
loop-passed-preserved c =
    let before = c.loop-passed.invariant in
    let less : length c.in-Some.behind.now + 3 ≤ length c.loop-passed.rest.now =
    item_shorter c.args.limits c.loop-passed.rest.now (0, c.in-Some.behind.now) c.in-Some.ensures in
    record {
      few = omega arith;
      pass = one_passed_more c.args.limits c.args.bytes.now c.loop-passed.rest.now c.in-Some.behind.now c.loop-passed.passed
          before.pass c.in-Some.ensures;
      shorter = omega (arith, less, before.shorter);
    }

pub loop-passed-smaller : goal.loop-passed-smaller
loop-passed-smaller c =
    let less : length c.in-Some.behind.now + 3 ≤ length c.loop-passed.rest.now =
    item_shorter c.args.limits c.loop-passed.rest.now (0, c.in-Some.behind.now) c.in-Some.ensures in
    omega (arith, less)
