use Rattle.std.proofs.Common.{append_assoc}
use Rattle.test_notation.specs.Info.{stream_form}
use Rattle.test_notation.proofs.replies.info.StreamInfoStreamReplyPrintedForm.print.Goals as goal

-- the two steps joined
pub returns : goal.returns
unfolding stream_form
returns c =
    let written = rw c.in_ok-write.ensures.bytes at c.print_ends.ensures in
    simp append_assoc (simp append_assoc at written)
