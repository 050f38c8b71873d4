use Rattle.std.proofs.Common.{rules, Some, arith}
use Rattle.stream_in_place.proofs.ShortLemmas.{head_stands}
use Rattle.stream_in_place.proofs.short.read_short_text.Goals as goal

pub read_body-requires-clause-head : goal.read_body-requires-clause-head
read_body-requires-clause-head c =
    head_stands c.args.limits c.args.bytes.now _ c.args.at 36 4 (Some c.in-Some.len) c.in-Some.ensures.head (search rules)
    (omega arith)

pub read_body-requires-in-Some-read_two_digits-clause-head :
    goal.read_body-requires-in-Some-read_two_digits-clause-head
read_body-requires-in-Some-read_two_digits-clause-head c =
    head_stands c.args.limits c.args.bytes.now _ c.args.at 36 5 (Some c.in-Some-read_two_digits.len)
    c.in-Some-read_two_digits.ensures.head (search rules) (omega arith)
