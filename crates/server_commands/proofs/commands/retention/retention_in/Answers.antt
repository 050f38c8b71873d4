use Rattle.std.proofs.Common.{arith}
use Rattle.server_commands.proofs.commands.retention.retention_in.Goals as goal

pub returns-in_err-rest-clause-given : goal.returns-in_err-rest-clause-given
returns-in_err-rest-clause-given c = λ id others add fit is.
    absurd (grind (arith, c.in_default.ensures.given id others add fit is, c.in_default.is))

pub returns-in_err-trim-clause-given : goal.returns-in_err-trim-clause-given
returns-in_err-trim-clause-given c = λ id others add fit is.
    absurd (grind (arith, c.in_default.ensures.given id others add fit is, c.in_default.is))

pub returns-clause-given : goal.returns-clause-given
returns-clause-given c = λ id others add fit is.
    absurd (grind (arith, c.in_default.ensures.given id others add fit is, c.in_default.is))
