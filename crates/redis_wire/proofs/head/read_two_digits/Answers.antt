use Rattle.redis_wire.proofs.HeadLemmas.{two_digits_begin}
use Rattle.redis_wire.proofs.head.read_two_digits.Goals as goal

pub returns-clause-head : goal.returns-clause-head
returns-clause-head c =
    let found = c.in_ok-number.ensures in
    rw found.is (two_digits_begin c.args.limits c.args.bytes.now c.args.first c.requires.length c.requires.line found.kind
    found.tens c.requires.room found.ones found.cr found.lf)
