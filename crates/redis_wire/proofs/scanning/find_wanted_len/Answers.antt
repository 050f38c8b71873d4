use Rattle.std.proofs.Common.{◌≡◌, ◌≤◌, ◌<◌, ◌+◌, ◌-◌, ◌++◌, ℕ, List, Err, length, take, drop, slice_index, sym, subst}
use Rattle.std.proofs.Common.{arith}
use Rattle.std.proofs.lemmas.List.{length-append, length-drop}
use Rattle.redis_wire.specs.Reading.{short}
use Rattle.redis_wire.specs.Item.{item_at}
use Rattle.redis_wire.proofs.LineLemmas.{first_and_rest, rest_is}
use Rattle.redis_wire.proofs.ItemLemmas.{few_short, body_le}
use Rattle.redis_wire.proofs.scanning.find_wanted_len.Goals as goal

pub overflow_sub-result : goal.overflow_sub-result
overflow_sub-result c =
    let le = body_le c.args.limits _ c.in-Ok-Some-default.body.now _ c.in-Ok-Some-default.ensures.gives in
    let rest = rest_is c.args.left.now in
    let here : length c.in-Ok-Some-default.body.now ≤ length (drop 1 c.args.left.now) = rw (← rest) le in
    omega (arith, here, length-drop 1 c.args.left.now)

pub returns-in-Ok-Some-default-clause-few : goal.returns-in-Ok-Some-default-clause-few
returns-in-Ok-Some-default-clause-few c = λ more lt.
    let left = c.args.left.now in
    let line = take (length left - 1) (drop 1 left) in
    let le = body_le c.args.limits line c.in-Ok-Some-default.body.now _ c.in-Ok-Some-default.ensures.gives in
    let read = rw c.in-Ok-Some-default.field-0-0-is at c.in-Ok-Some-default.ensures.gives in
    let kind = rw c.in-Some-Blob.field-0-is at c.in-Some-Blob.ensures in
    let len : length line ≡ length left - 1 = rw (rest_is left) (length-drop 1 left) in
    let few : length (line ++ more) < length line - length c.in-Ok-Some-default.body.now + c.in-Ok-Some-default.len =
    omega (arith, lt, le, len, c.in-len1-up.len_at_least, length-append left more, length-append line more) in
    let split = first_and_rest left c.in-len1-up.len_at_least in
    subst (λ (l : List ℕ). item_at c.args.limits (l ++ more) ≡ Err short) (sym split)
    (few_short c.args.limits
    (slice_index left 0) c.in-Ok-Some-default.len c.in-Some-Blob.field-0-0 line c.in-Ok-Some-default.body.now more
    (sym kind) read few)
