use Rattle.std.proofs.Common.{rules, arith, slice_index}
use Rattle.std.specs.Int.{IsInRange}
use Rattle.redis_wire.proofs.LineLemmas.{first_and_rest}
use Rattle.redis_wire.proofs.DigitLemmas.{one_digit_more}
use Rattle.redis_wire.proofs.number.parse_digits.Goals as goal

pub loop-rest-preserved : goal.loop-rest-preserved
loop-rest-preserved c =
    let d = slice_index c.loop-rest.rest.now 0 in
    let digit : IsInRange 48 57 d = search rules in
    record {
      so_far = one_digit_more c.args.bytes.now c.loop-rest.rest.now _ c.loop-rest.number d c.loop-rest.invariant.so_far
          (first_and_rest c.loop-rest.rest.now c.in-len1-up.len_at_least) digit;
      small = omega (arith, digit);
    }
