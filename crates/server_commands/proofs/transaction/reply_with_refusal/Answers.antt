use Rattle.std.proofs.Common.{refl}
use Rattle.server_commands.proofs.transaction.reply_with_refusal.Goals as goal

pub returns : goal.returns
returns c = (c.in_ok-into_text.ensures.memory, c.in_ok-into_text.field-0, refl)
