use Rattle.std.proofs.Common.{◌≡◌, ◌++◌}
use Rattle.test_costs.specs.Answer.{entry_bytes, head_bytes}
use Rattle.test_costs.specs.Below.{below}
use Rattle.test_costs.proofs.answer.made.Given as goal

-- the entries so far
abbrev pub invariant-loop-index : goal.invariant-loop-index
invariant-loop-index l = l.bytes.items ≡ head_bytes l.fn.form l.fn.entries ++ below entry_bytes l.index
