use Rattle.std.proofs.Common.{drop}
use Rattle.redis_wire.specs.Place.{BeginsWithText}
use Rattle.stream_in_place.proofs.short.read_short_field.Goals as goal

pub returns-clause-found : goal.returns-clause-found
returns-clause-found c = λ name value behind rest first second.
    let left = (c.in_ok-name.ensures.found name behind first).1 in
    let next : BeginsWithText c.args.limits (drop c.in_ok-name.middle c.args.bytes.now) value rest = rw left second in
    (c.in_ok-value.ensures.found value rest next).1
