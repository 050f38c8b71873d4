use Rattle.std.proofs.Common.{None}
use Rattle.redis_wire.proofs.PlaceLemmas.{no_bulk_place}
use Rattle.redis_wire.proofs.place.read_null_bulk_string.Goals as goal

pub returns-in-None-default-clause-is : goal.returns-in-None-default-clause-is
returns-in-None-default-clause-is c = no_bulk_place c.args.limits c.args.bytes.now c.args.at c.in_ok-after.field-0.1
    (rw c.in-None-default.is-0 at c.in_ok-after.ensures.is)

pub returns-in_err-after-clause-found : goal.returns-in_err-after-clause-found
returns-in_err-after-clause-found c = λ rest h. absurd (c.in_err-after.ensures.found None rest h)
