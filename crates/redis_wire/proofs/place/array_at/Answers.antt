use Rattle.std.proofs.Common.{Some}
use Rattle.redis_wire.proofs.PlaceLemmas.{array_place}
use Rattle.redis_wire.proofs.place.array_at.Goals as goal

pub returns-in-Some-default-clause-is : goal.returns-in-Some-default-clause-is
returns-in-Some-default-clause-is c =
    array_place c.args.limits c.args.bytes.now c.args.at c.in_ok-count.field-0.1 c.in-Some-default.count
    (rw c.in-Some-default.is-0 at c.in_ok-count.ensures.is)

pub returns-in_err-count-clause-found : goal.returns-in_err-count-clause-found
returns-in_err-count-clause-found c = λ count rest h. absurd (c.in_err-count.ensures.found (Some count) rest h)
