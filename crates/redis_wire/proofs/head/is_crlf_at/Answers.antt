use Rattle.std.proofs.Common.{◌≡◌, ◌+◌, suc, arith}
use Rattle.redis_wire.proofs.HeadLemmas.{two_at}
use Rattle.redis_wire.proofs.head.is_crlf_at.Goals as goal

pub returns : goal.returns
returns c = λ is.
    let both = c.is_crlf.ensures is in
    let one : c.args.at + 1 ≡ suc c.args.at = omega arith in
    let two : c.args.at + 2 ≡ suc (suc c.args.at) = omega arith in
    rw two (two_at c.args.bytes.now c.args.at 13 10 c.requires both.0 (rw one at both.1))
