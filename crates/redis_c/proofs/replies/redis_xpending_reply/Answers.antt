use Rattle.redis_c.proofs.TellLemmas.{records_tell}
use Rattle.redis_c.proofs.replies.redis_xpending_reply.Goals as goal

pub returns-clause-tells : goal.returns-clause-tells
returns-clause-tells c =
    records_tell _ _ _ _ _ _ _ c.copy_entries.result c.tell.result c.tell.ensures.number c.copy_entries.ensures
