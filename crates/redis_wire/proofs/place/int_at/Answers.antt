use Rattle.redis_wire.proofs.PlaceLemmas.{int_place}
use Rattle.redis_wire.proofs.place.int_at.Goals as goal

pub returns-clause-is : goal.returns-clause-is
returns-clause-is c =
    int_place c.args.limits c.args.bytes.now c.args.at c.in_ok-line.after c.in_ok-line.line.now
    c.in_ok-parse_unsigned.field-0 c.in_ok-line.ensures.is c.in_ok-parse_unsigned.ensures.is

pub returns-in_err-line-clause-found : goal.returns-in_err-line-clause-found
returns-in_err-line-clause-found c = λ number rest h. absurd (c.in_err-line.ensures.found h.line rest h.at)
