use Rattle.std.proofs.Common.{◌≡◌, rules, slice_index, refl}
use Rattle.std.specs.Int.{IsInRange}
use Rattle.redis_wire.proofs.LineLemmas.{first_four}
use Rattle.redis_wire.proofs.DigitLemmas.{two_digits_are}
use Rattle.redis_wire.proofs.number.parse_two_digits.Goals as goal

pub returns-else-not-is_ascii_digit-2 : goal.returns-else-not-is_ascii_digit-2
returns-else-not-is_ascii_digit-2 c =
    let bytes = c.args.bytes.now in
    let cr : slice_index bytes 2 ≡ 13 = search rules in
    let lf : slice_index bytes 3 ≡ 10 = search rules in
    let first : IsInRange 48 57 (slice_index bytes 0) = search rules in
    let second : IsInRange 48 57 (slice_index bytes 1) = search rules in
    let split = first_four bytes (slice_index bytes 0)
    (slice_index bytes 1) 13 10 c.in-13.len_at_least refl refl cr lf in
    two_digits_are c.args.limits bytes _ c.requires.length c.requires.line (slice_index bytes 0)
    (slice_index bytes 1) split first second
