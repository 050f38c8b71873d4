use Rattle.std.proofs.Common.{rules, ◌≡◌, ◌≤◌, ◌+◌, ◌++◌, ◌∷◌, [], suc, length, arith}
use Rattle.redis_wire.specs.Reading.{bad}
use Rattle.redis_wire.proofs.BoundedLemmas.{item_shorter}
use Rattle.redis_wire.proofs.ItemLemmas.{end_le}
use Rattle.redis_wire.proofs.ScanLemmas.{walk_out, walk_whole, walk_over, walk_deep, walk_stops}
use Rattle.redis_wire.proofs.scanning.walk.Goals as goal

pub loop-inner-preserved-then-inner-eq0 : goal.loop-inner-preserved-then-inner-eq0
loop-inner-preserved-then-inner-eq0 c =
    let split : c.loop-inner.outer.items ≡ c.pop.new.self.items ++ c.in-Some.next ∷ [] = search rules in
    walk_out c.args.limits c.loop-inner.count c.loop-inner.inner c.loop-inner.outer.items c.args.bytes.now
    c.loop-inner.rest.now c.loop-inner.invariant c.pop.new.self.items c.in-Some.next c.if-inner-eq0.true split

pub returns-in_default-clause-is : goal.returns-in_default-clause-is
returns-in_default-clause-is c =
    let empty : length c.loop-inner.outer.items ≡ 0 = search rules in
    walk_whole c.args.limits c.loop-inner.count c.loop-inner.inner c.loop-inner.outer.items c.args.bytes.now
    c.loop-inner.rest.now c.loop-inner.invariant c.if-inner-eq0.true empty

pub returns-then-count-limits-clause-is : goal.returns-then-count-limits-clause-is
returns-then-count-limits-clause-is c =
    walk_over c.args.limits c.loop-inner.count c.loop-inner.inner c.loop-inner.outer.items c.args.bytes.now
    c.loop-inner.rest.now c.loop-inner.invariant (omega (arith, c.if-inner-eq0.false))
    (omega (arith, c.if-count-limits.true))

pub returns-then-inner-eq0-2-clause-is : goal.returns-then-inner-eq0-2-clause-is
returns-then-inner-eq0-2-clause-is c =
    walk_deep c.args.limits c.loop-inner.count c.loop-inner.inner c.loop-inner.outer.items c.args.bytes.now
    c.loop-inner.rest.now c.loop-inner.invariant (omega (arith, c.if-count-limits.false)) c.if-inner-eq0-2.true
    (omega (arith, c.if-inner-eq0.false))

pub loop-inner-preserved-then-passed-gt0 : goal.loop-inner-preserved-then-passed-gt0
loop-inner-preserved-then-passed-gt0 c =
    let run = c.pass_run-passed.ensures in
    run.pass c.loop-inner.count c.loop-inner.inner c.loop-inner.outer.items c.args.bytes.now run.members run.values
    (omega (arith, c.if-inner-eq0-2.false)) c.loop-inner.invariant

pub loop-inner-smaller : goal.loop-inner-smaller
loop-inner-smaller c =
    let shorter : length c.in-Ok.after.now + 3 ≤ length c.loop-inner.rest.now =
    item_shorter c.args.limits c.loop-inner.rest.now (c.in-Ok.asked, c.in-Ok.after.now) c.in-Ok.ensures in
    omega (arith, shorter, c.in_ok-inner-in-Ok.ensures.one)

pub loop-inner-preserved : goal.loop-inner-preserved
loop-inner-preserved c =
    let next : c.loop-inner.count + 1 ≡ suc c.loop-inner.count = omega arith in
    rw next (c.in_ok-inner-in-Ok.ensures.is c.args.limits c.loop-inner.count c.args.bytes.now c.loop-inner.rest.now
    c.in-Ok.after.now (omega (arith, c.if-count-limits.false)) c.loop-inner.invariant c.in-Ok.ensures)

pub returns-in-Err-Fault-clause-is : goal.returns-in-Err-Fault-clause-is
returns-in-Err-Fault-clause-is c =
    walk_stops c.args.limits c.loop-inner.count c.loop-inner.inner c.loop-inner.outer.items c.args.bytes.now
    c.loop-inner.rest.now c.loop-inner.invariant (omega (arith, c.if-count-limits.false))
    (omega (arith, c.if-inner-eq0-2.false)) (omega (arith, c.if-inner-eq0.false)) (bad c.in-Err-Fault.field-0-0)
    (rw c.in-Err-Fault.field-0-is at c.in-Err-Fault.ensures)

pub overflow_sub-result : goal.overflow_sub-result
overflow_sub-result c = end_le c.loop-inner.rest.now c.args.bytes.now c.loop-inner.invariant.end
