use Rattle.std.proofs.Common.{◌≡◌, sym, ◌∙◌, arith, true, false, eqb, get_or}
use Rattle.std.proofs.lemmas.Bool.Decides.{nat_tests}
use Rattle.stream_option_parsing.proofs.LineLemmas.{front_ends, front_more, front_all}
use Rattle.stream_option_parsing.proofs.pieces.cut_at.Goals as goal

pub returns-then-bytes-i-clause-cut : goal.returns-then-bytes-i-clause-cut
returns-then-bytes-i-clause-cut c =
    let e : eqb (get_or c.args.bytes.now c.loop-i.i 0) c.args.mark ≡ true = grind (arith, nat_tests) in
    λ end. sym (c.loop-i.invariant end) ∙ front_ends c.args.mark end c.args.bytes.now c.loop-i.i c.loop-i-test.true e

pub loop-i-preserved : goal.loop-i-preserved
loop-i-preserved c =
    let e : eqb (get_or c.args.bytes.now c.loop-i.i 0) c.args.mark ≡ false = grind (arith, nat_tests) in
    λ end. sym (front_more c.args.mark end c.args.bytes.now c.loop-i.i c.loop-i-test.true e) ∙ c.loop-i.invariant end

pub returns-clause-cut : goal.returns-clause-cut
returns-clause-cut c = λ end. sym (c.loop-i.invariant end)
    ∙ front_all c.args.mark end c.args.bytes.now c.loop-i.i c.loop-i-test.false
