use Rattle.std.proofs.Common.{◌≡◌, ◌<◌, ◌-◌, ℕ, zero, suc, List, Some, Ok, refl, arith}
use Rattle.std.proofs.lemmas.Result.{err_from_is_err_and}
use Rattle.redis_wire.specs.declared.fault.Stop.{Stop}
use Rattle.redis_wire.specs.declared.fault.Stop.TheVariants as stops
use Rattle.redis_wire.specs.declared.limits.Limits.{Limits}
use Rattle.redis_wire.specs.Reading.{Fails}
use Rattle.redis_wire.specs.Group.{many}
use Rattle.redis_wire.specs.Level.{value_at}
use Rattle.redis_wire.specs.Push.{kind_at, push_body_at}
use Rattle.redis_wire.proofs.push.read_push_body.Goals as goal

members_fail : (limits : Limits) (count : ℕ) (bytes kind rest : List ℕ) (e : Stop) → 0 < count
    → kind_at limits bytes ≡ Ok (kind, rest) → Fails e (many (value_at limits (limits.depth - 1)) (count - 1) rest)
    → Fails e (push_body_at limits (Some count) bytes)
unfolding push_body_at
members_fail limits zero bytes kind rest e some read fails = absurd (omega (arith, some))
members_fail limits (suc n) bytes kind rest stops.Memory some read fails = tt
members_fail limits (suc n) bytes kind rest stops.Short some read fails =
    let one : suc n - 1 ≡ n = omega arith in
    rw (read, (rw one at fails)) refl
members_fail limits (suc n) bytes kind rest (stops.Fault f) some read fails =
    let one : suc n - 1 ≡ n = omega arith in
    rw (read, (rw one at fails)) refl

pub returns-in_err-members-in-Some : goal.returns-in_err-members-in-Some
returns-in_err-members-in-Some c =
    let p = err_from_is_err_and c.from_residual-in_err-members-in-Some.result
    c.from_residual-in_err-members-in-Some.ensures.1 in
    rw (p.1, p.2, c.in-Some.is) (members_fail c.args.limits c.in-Some.count c.args.bytes.now
    c.in_ok-kind-in-Some.kind.now c.in_ok-kind-in-Some.rest.now c.in_err-members-in-Some.field-0.0
    (grind (arith, c.in-Some.count-test)) c.in_ok-kind-in-Some.ensures c.in_err-members-in-Some.ensures)
