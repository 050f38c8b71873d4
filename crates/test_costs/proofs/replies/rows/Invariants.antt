use Rattle.std.proofs.Common.{◌≡◌, map}
use Rattle.redis_resp.specs.Value.{tree}
use Rattle.test_costs.specs.Replies.{row_trees}
use Rattle.test_costs.proofs.replies.rows.Given as goal

-- the rows so far
abbrev pub invariant-loop-index : goal.invariant-loop-index
invariant-loop-index l = map tree l.rows.items ≡ row_trees l.row l.index
