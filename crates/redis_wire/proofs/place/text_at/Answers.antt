use Rattle.std.proofs.Common.{rules, ◌≡◌, Some, Ok, drop}
use Rattle.redis_wire.specs.Reading.{blob_at}
use Rattle.redis_wire.specs.Place.{IsHeadAt}
use Rattle.redis_wire.proofs.PlaceLemmas.{text_le, text_place, text_found}
use Rattle.redis_wire.proofs.place.text_at.Goals as goal

pub overflow_sub-result : goal.overflow_sub-result
overflow_sub-result c =
    let head : IsHeadAt c.args.limits c.args.bytes.now c.args.at 36 (Some c.in-Some-default.len) c.in_ok-len.field-0.1 =
    rw c.in-Some-default.is-0 at c.in_ok-len.ensures.is in
    let blob : blob_at c.in-Some-default.len (drop c.in_ok-len.field-0.1 c.args.bytes.now)
    ≡ Ok (c.in-Ok.field-0-0.now, c.in-Ok.left.now) = search rules in
    text_le c.args.limits c.args.bytes.now c.in-Ok.field-0-0.now c.in-Ok.left.now c.args.at c.in-Some-default.len
    c.in_ok-len.field-0.1 head blob

pub returns-in-Ok-clause-is : goal.returns-in-Ok-clause-is
returns-in-Ok-clause-is c =
    let head : IsHeadAt c.args.limits c.args.bytes.now c.args.at 36 (Some c.in-Some-default.len) c.in_ok-len.field-0.1 =
    rw c.in-Some-default.is-0 at c.in_ok-len.ensures.is in
    let blob : blob_at c.in-Some-default.len (drop c.in_ok-len.field-0.1 c.args.bytes.now)
    ≡ Ok (c.in-Ok.field-0-0.now, c.in-Ok.left.now) = search rules in
    text_place c.args.limits c.args.bytes.now c.in-Ok.field-0-0.now c.in-Ok.left.now c.args.at c.in-Some-default.len
    c.in_ok-len.field-0.1 head blob

pub returns-in_err-len-clause-found : goal.returns-in_err-len-clause-found
returns-in_err-len-clause-found c = λ text rest h. absurd (c.in_err-len.ensures.found (Some h.len) h.body h.head)

pub returns-in-Ok-clause-found : goal.returns-in-Ok-clause-found
returns-in-Ok-clause-found c =
    let head : IsHeadAt c.args.limits c.args.bytes.now c.args.at 36 (Some c.in-Some-default.len) c.in_ok-len.field-0.1 =
    rw c.in-Some-default.is-0 at c.in_ok-len.ensures.is in
    let blob : blob_at c.in-Some-default.len (drop c.in_ok-len.field-0.1 c.args.bytes.now)
    ≡ Ok (c.in-Ok.field-0-0.now, c.in-Ok.left.now) = search rules in
    text_found c.args.limits c.args.bytes.now c.in-Ok.field-0-0.now c.in-Ok.left.now c.args.at c.in-Some-default.len
    c.in_ok-len.field-0.1 head blob
