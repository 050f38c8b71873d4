use Rattle.std.proofs.Common.{rules, ◌≡◌, ◌+◌, Some, arith}
use Rattle.redis_wire.specs.Place.{IsHeadAt}
use Rattle.redis_wire.proofs.PlaceLemmas.{array_place, head_same}
use Rattle.stream_in_place.proofs.ShortLemmas.{head_stands}
use Rattle.stream_in_place.proofs.short.read_short_count.Goals as goal

pub returns-in-Some-clause-is : goal.returns-in-Some-clause-is
returns-in-Some-clause-is c =
    let head : IsHeadAt c.args.limits c.args.bytes.now c.args.at 42 (Some c.in-Some.count) (c.args.at + 4) =
    head_stands c.args.limits c.args.bytes.now _ c.args.at 42 4 (Some c.in-Some.count) c.in-Some.ensures.head
    (search rules) (omega arith) in
    array_place c.args.limits c.args.bytes.now c.args.at (c.args.at + 4) c.in-Some.count head

pub returns-in-Some-clause-found : goal.returns-in-Some-clause-found
returns-in-Some-clause-found c = λ count rest h.
    let head : IsHeadAt c.args.limits c.args.bytes.now c.args.at 42 (Some c.in-Some.count) (c.args.at + 4) =
    head_stands c.args.limits c.args.bytes.now _ c.args.at 42 4 (Some c.in-Some.count) c.in-Some.ensures.head
    (search rules) (omega arith) in
    let same = head_same c.args.limits c.args.bytes.now c.args.at 42 (Some c.in-Some.count) (c.args.at + 4) head
    (Some count) rest h in
    let number : c.in-Some.count ≡ count = cc (same.0) in
    (number, same.1)
