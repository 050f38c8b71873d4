use Rattle.std.proofs.Common.{rules, arith, length, ◌≡◌}
use Rattle.redis_wire.proofs.stream.ReplyStream.new.Goals as goal

pub invariant_of-result : goal.invariant_of-result
invariant_of-result c =
    let none : length c.new.result.items ≡ 0 = search rules in
    (omega arith, c.new_scan.ensures c.new.result.items c.args.limits, omega (arith, none), omega (arith, none))
