use Rattle.std.proofs.Common.{rules, ◌≡◌, inl, Some, Ok, drop}
use Rattle.redis_wire.specs.Reading.{blob_at}
use Rattle.redis_wire.specs.Place.{IsHeadAt}
use Rattle.redis_wire.proofs.NodeLemmas.{blob_le, blob_node}
use Rattle.redis_wire.proofs.nodes.read_blob_node.Goals as goal

pub overflow_sub-result : goal.overflow_sub-result
overflow_sub-result c =
    let head : IsHeadAt c.args.limits c.args.bytes.now c.args.at c.args.first (Some c.in-Some.len) c.in_ok-len.start =
    rw c.in-Some.is at c.in_ok-len.ensures.is in
    let blob : blob_at c.in-Some.len (drop c.in_ok-len.start c.args.bytes.now)
    ≡ Ok (c.in-Ok.field-0-0.now, c.in-Ok.left.now) = search rules in
    blob_le c.args.limits c.args.bytes.now c.in-Ok.field-0-0.now c.in-Ok.left.now c.args.at c.args.first
    c.in-Some.len c.in_ok-len.start head blob

pub returns-in-Ok-clause-is : goal.returns-in-Ok-clause-is
returns-in-Ok-clause-is c =
    let head : IsHeadAt c.args.limits c.args.bytes.now c.args.at c.args.first (Some c.in-Some.len) c.in_ok-len.start =
    rw c.in-Some.is at c.in_ok-len.ensures.is in
    let blob : blob_at c.in-Some.len (drop c.in_ok-len.start c.args.bytes.now)
    ≡ Ok (c.in-Ok.field-0-0.now, c.in-Ok.left.now) = search rules in
    inl (blob_node c.args.limits c.args.bytes.now c.in-Ok.field-0-0.now c.in-Ok.left.now c.args.at c.args.first
    c.in-Some.len c.in_ok-len.start head blob)
