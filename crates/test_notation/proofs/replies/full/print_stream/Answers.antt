use Rattle.std.proofs.Common.{append_assoc}
use Rattle.test_notation.specs.InfoFull.{full_numbers_form}
use Rattle.test_notation.proofs.replies.full.print_stream.Goals as goal

-- the three steps joined
pub returns : goal.returns
unfolding full_numbers_form
returns c =
    let begun = rw c.in_ok-write.ensures.bytes at c.in_ok-print.ensures in
    let written = rw begun at c.write-2.ensures.bytes in
    simp append_assoc (simp append_assoc at written)
