use Rattle.redis_wire.proofs.HeadLemmas.{one_digit_begins}
use Rattle.redis_wire.proofs.head.read_one_digit.Goals as goal

pub returns-clause-head : goal.returns-clause-head
returns-clause-head c =
    let found = c.in_ok-digit.ensures in
    rw found.is (one_digit_begins c.args.limits c.args.bytes.now c.args.first c.requires.length c.requires.line found.kind
    found.digit c.requires.room found.cr found.lf)
