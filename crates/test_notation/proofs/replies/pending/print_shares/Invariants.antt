use Rattle.std.proofs.Common.{◌≡◌, ◌++◌, codes, string_bytes, take}
use Rattle.std.specs.Prelude.{flat_map}
use Rattle.test_notation.specs.Pending.{pending_of_form}
use Rattle.test_notation.proofs.replies.pending.print_shares.Given as goal

abbrev pub invariant-loop-other : goal.invariant-loop-other
invariant-loop-other l =
    string_bytes l.line
    ≡ string_bytes l.initial.line ++ flat_map (λ y. codes " " ++ pending_of_form y) (take l.other-index l.others)
