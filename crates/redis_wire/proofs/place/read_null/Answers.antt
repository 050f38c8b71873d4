use Rattle.std.proofs.Common.{◌≡◌, [], arith, length}
use Rattle.redis_wire.proofs.PlaceLemmas.{null_place}
use Rattle.redis_wire.proofs.place.read_null.Goals as goal

pub returns-in-empty-default-clause-is : goal.returns-in-empty-default-clause-is
returns-in-empty-default-clause-is c =
    let none : length c.in_ok-after.field-0.0.now ≡ 0 = omega (arith, c.in-empty-default.len_below) in
    null_place c.args.limits c.args.bytes.now c.args.at c.in_ok-after.field-0.1 c.in_ok-after.field-0.0.now
    c.in_ok-after.ensures.is none

pub returns-in_err-after-clause-found : goal.returns-in_err-after-clause-found
returns-in_err-after-clause-found c = λ rest h. absurd (c.in_err-after.ensures.found [] rest h)
