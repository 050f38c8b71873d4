use Rattle.std.proofs.Common.{◌≡◌, length, arith, refl}
use Rattle.std.proofs.lemmas.Bool.Decides.{nat_tests}
use Rattle.stream_fill.proofs.BaseLemmas.{before_space, without_space}
use Rattle.stream_fill.proofs.kept_base.parse_front_number.Goals as goal

pub returns-in-Some : goal.returns-in-Some
returns-in-Some c n small begins =
    before_space c.args.bytes.now c.in-Some.digits.now c.in-Some._rest.now c.parse_number.result n small
    c.in-Some.ensures.some c.in-Some.ensures.first c.parse_number.ensures begins

pub returns-in-None : goal.returns-in-None
returns-in-None c n small begins =
    let some : length c.args.bytes.now ≡ 0 → ⊥ = grind (arith, nat_tests, c.is_empty.ensures, c.if-is_empty.false) in
    without_space c.args.bytes.now c.parse_number-in-None.result n small some (c.in-None.ensures.none refl)
    c.parse_number-in-None.ensures begins
