use Rattle.std.proofs.Common.{◌≤◌, ℕ, List, ◌++◌, length}
use Rattle.stream_option_parsing.specs.Answer.{IsAnswer, AppendsAnswer, NeedsNoMemory}
use Rattle.stream_option_parsing.proofs.answer.append_replies.Given as goal

-- the output so far, followed by any output for the rest, is one for all; no more is left than before; and if no
-- memory was needed, none is needed for the rest
abbrev pub invariant-lines : goal.invariant-lines
invariant-lines l = record {
  answered : (tail : List ℕ) → IsAnswer l.rest tail
      → AppendsAnswer l.initial.rest l.initial.output.items (l.output.items ++ tail);
  within : length l.rest ≤ length l.initial.rest;
  room : NeedsNoMemory l.initial.rest l.initial.output → NeedsNoMemory l.rest l.output;
}

abbrev pub decreases-lines : goal.decreases-lines
decreases-lines l = length l.rest
