use Rattle.redis_wire.proofs.TextLemmas.{kind_is, no_kind}
use Rattle.redis_wire.proofs.push.parse_kind.Goals as goal

pub returns-in-Ok : goal.returns-in-Ok
returns-in-Ok c = kind_is c.args.text.now c.in-Ok.kind.now c.in-Ok.ensures.cases.0 c.in-Ok.ensures.cases.1

pub returns-in-Err : goal.returns-in-Err
returns-in-Err c = no_kind c.args.text.now c.in-Err.ensures.cases.0
