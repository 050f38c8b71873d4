use Rattle.std.proofs.Common.{◌≡◌, ◌∷◌, ◌<◌, ◌≤◌, ◌+◌, ◌-◌, ◌^◌, rules, arith, length, take, drop, slice_index}
use Rattle.redis_wire.proofs.LineLemmas.{first_two}
use Rattle.redis_wire.proofs.DigitLemmas.{length_is}
use Rattle.redis_wire.proofs.number.parse_long_length.Goals as goal

pub returns-in-13 : goal.returns-in-13
returns-in-13 c =
    let behind = c.in_ok-number.behind.now in
    let cr : slice_index behind 0 ≡ 13 = search rules in
    let lf : slice_index behind 1 ≡ 10 = search rules in
    let split : behind ≡ 13 ∷ 10 ∷ take (length behind - 2) (drop 2 behind) =
    first_two behind 13 10 c.in-13.len_at_least cr lf in
    let within : length c.args.bytes.now ≤ c.args.limits.line + length behind =
    omega (arith, c.in_ok-number.ensures.some) in
    let least : c.in_ok-number.number ≤ c.args.limits.length = omega arith in
    let small : c.in_ok-number.number < 2 ^ 63 = omega (arith, c.in_ok-number.ensures.small) in
    length_is c.args.limits c.args.bytes.now behind
    (take (length behind - 2)
    (drop 2 behind)) c.in_ok-number.number c.in_ok-number.ensures.is split c.in_ok-number.ensures.some within least
    small
