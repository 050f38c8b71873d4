use Rattle.std.proofs.Common.{append_assoc}
use Rattle.test_notation.proofs.replies.info.StreamInfoStreamReplyWithIdempotencyPrintedForm.print.Goals as goal

-- the two steps joined
pub returns : goal.returns
returns c =
    let written = rw c.in_ok-print.ensures at c.write.ensures.bytes in
    simp append_assoc (simp append_assoc at written)
