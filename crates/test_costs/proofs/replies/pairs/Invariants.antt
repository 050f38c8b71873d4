use Rattle.std.proofs.Common.{◌≡◌, map}
use Rattle.redis_resp.specs.Value.{tree}
use Rattle.test_costs.specs.Below.{below}
use Rattle.test_costs.specs.Replies.{pair_trees}
use Rattle.test_costs.proofs.replies.pairs.Given as goal

-- the pairs so far
abbrev pub invariant-loop-number : goal.invariant-loop-number
invariant-loop-number l = map tree l.items.items ≡ below pair_trees l.number-counter
