use Rattle.redis_wire.proofs.NextLemmas.{len_short, len_whole}
use Rattle.redis_wire.proofs.stream.reply_len.Goals as goal

pub returns-in-Ok-Paused-clause-len : goal.returns-in-Ok-Paused-clause-len
returns-in-Ok-Paused-clause-len c = len_short c.args.limits c.args.bytes.now
    (rw c.in-Ok-Paused.field-0-is at c.in-Ok-Paused.ensures).early

pub returns-in-Ok-Whole-clause-len : goal.returns-in-Ok-Whole-clause-len
returns-in-Ok-Whole-clause-len c = len_whole c.args.limits c.args.bytes.now c.in-Ok-Whole.len
    (rw c.in-Ok-Whole.field-0-is at c.in-Ok-Whole.ensures)

pub returns-in-Ok-Whole-clause-left : goal.returns-in-Ok-Whole-clause-left
returns-in-Ok-Whole-clause-left c = c.take_scan-from.ensures.left c.args.bytes.now c.args.limits

pub returns-in-Ok-clause-left : goal.returns-in-Ok-clause-left
returns-in-Ok-clause-left c = c.take_scan-from.ensures.left c.args.bytes.now c.args.limits

pub returns-in-Err-clause-left : goal.returns-in-Err-clause-left
returns-in-Err-clause-left c = c.take_scan-from.ensures.left c.args.bytes.now c.args.limits
