use Rattle.std.proofs.Common.{◌≡◌, rules, slice_index, refl}
use Rattle.std.specs.Int.{IsInRange}
use Rattle.redis_wire.proofs.LineLemmas.{first_three}
use Rattle.redis_wire.proofs.DigitLemmas.{one_digit_is}
use Rattle.redis_wire.proofs.number.parse_one_digit.Goals as goal

pub returns-else-not-is_ascii_digit : goal.returns-else-not-is_ascii_digit
returns-else-not-is_ascii_digit c =
    let bytes = c.args.bytes.now in
    let cr : slice_index bytes 1 ≡ 13 = search rules in
    let lf : slice_index bytes 2 ≡ 10 = search rules in
    let digit : IsInRange 48 57 (slice_index bytes 0) = search rules in
    let split = first_three bytes (slice_index bytes 0) 13 10 c.in-13.len_at_least refl cr lf in
    one_digit_is c.args.limits bytes _ c.requires.length c.requires.line (slice_index bytes 0) split digit
