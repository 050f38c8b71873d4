use Rattle.std.proofs.Common.{rules, ◌≡◌, ◌∷◌, drop}
use Rattle.redis_wire.proofs.PlaceLemmas.{head_le, head_is, head_same}
use Rattle.redis_wire.proofs.place.head_at.Goals as goal

pub overflow_sub-result : goal.overflow_sub-result
overflow_sub-result c =
    let is : drop c.args.at c.args.bytes.now ≡ c.args.first ∷ c.in_ok-byte.behind.now = search rules in
    head_le c.args.limits c.args.bytes.now c.in_ok-byte.behind.now c.in-Ok.left.now c.args.at c.args.first c.in-Ok.len
    is c.in-Ok.ensures.gives

pub returns-in-Ok-clause-is : goal.returns-in-Ok-clause-is
returns-in-Ok-clause-is c =
    let is : drop c.args.at c.args.bytes.now ≡ c.args.first ∷ c.in_ok-byte.behind.now = search rules in
    head_is c.args.limits c.args.bytes.now c.in_ok-byte.behind.now c.in-Ok.left.now c.args.at c.args.first c.in-Ok.len
    is c.in-Ok.ensures.gives

pub returns-in-Ok-clause-found : goal.returns-in-Ok-clause-found
returns-in-Ok-clause-found c =
    let is : drop c.args.at c.args.bytes.now ≡ c.args.first ∷ c.in_ok-byte.behind.now = search rules in
    head_same c.args.limits c.args.bytes.now c.args.at c.args.first c.in-Ok.len _
    (head_is c.args.limits c.args.bytes.now c.in_ok-byte.behind.now c.in-Ok.left.now c.args.at c.args.first c.in-Ok.len
    is c.in-Ok.ensures.gives)
