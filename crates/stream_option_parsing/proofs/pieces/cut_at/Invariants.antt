use Rattle.std.proofs.Common.{◌≡◌, ℕ, List, take, drop}
use Rattle.stream_option_parsing.specs.Lines.{pieces, with_front}
use Rattle.stream_option_parsing.proofs.pieces.cut_at.Given as goal

-- no mark so far
abbrev pub invariant-loop-i : goal.invariant-loop-i
invariant-loop-i l = (end : List (List ℕ)) → with_front (take l.i l.bytes) (pieces l.mark end (drop l.i l.bytes))
    ≡ pieces l.mark end l.bytes
