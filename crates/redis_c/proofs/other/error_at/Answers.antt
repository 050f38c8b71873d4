use Rattle.std.proofs.Common.{refl, take}
use Rattle.redis_wire.specs.Limits.{default_limits}
use Rattle.redis_c.proofs.ErrorLemmas.{error_ends}
use Rattle.redis_c.proofs.other.error_at.Goals as goal

pub returns-in-None : goal.returns-in-None
returns-in-None c =
    let e = error_ends default_limits (take c.args.len c.args.bytes.now) c.args.text.now c.requires.reply in
    absurd (c.in-None.ensures.found refl c.requires.within e.0 e.1)
