use Rattle.std.proofs.Common.{rules, ◌≡◌, ◌∷◌, drop}
use Rattle.redis_wire.proofs.PlaceLemmas.{line_le, line_is, line_same}
use Rattle.redis_wire.proofs.place.line_behind.Goals as goal

pub overflow_sub-result : goal.overflow_sub-result
overflow_sub-result c =
    let is : drop c.args.at c.args.bytes.now ≡ c.args.first ∷ c.in_ok-byte.behind.now = search rules in
    line_le c.args.limits c.args.bytes.now c.in_ok-byte.behind.now c.in-Ok.line.now c.in-Ok.left.now c.args.at
    c.args.first is c.in-Ok.ensures.gives

pub returns-in-Ok-clause-is : goal.returns-in-Ok-clause-is
returns-in-Ok-clause-is c =
    let is : drop c.args.at c.args.bytes.now ≡ c.args.first ∷ c.in_ok-byte.behind.now = search rules in
    line_is c.args.limits c.args.bytes.now c.in_ok-byte.behind.now c.in-Ok.line.now c.in-Ok.left.now c.args.at
    c.args.first is c.in-Ok.ensures.gives

pub returns-in-Ok-clause-found : goal.returns-in-Ok-clause-found
returns-in-Ok-clause-found c =
    let is : drop c.args.at c.args.bytes.now ≡ c.args.first ∷ c.in_ok-byte.behind.now = search rules in
    line_same c.args.limits c.args.bytes.now c.args.at c.args.first c.in-Ok.line.now _
    (line_is c.args.limits c.args.bytes.now c.in_ok-byte.behind.now c.in-Ok.line.now c.in-Ok.left.now c.args.at
    c.args.first is c.in-Ok.ensures.gives)
