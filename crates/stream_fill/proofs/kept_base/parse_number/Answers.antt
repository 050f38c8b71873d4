use Rattle.std.proofs.Common.{None}
use Rattle.stream_fill.proofs.BaseLemmas.{not_text}
use Rattle.stream_fill.proofs.kept_base.parse_number.Goals as goal

pub returns-in_default : goal.returns-in_default
returns-in_default c n small is = not_text c.args.digits.now None n small c.in_default.ensures.cases.0 is
