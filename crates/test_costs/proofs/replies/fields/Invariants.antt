use Rattle.std.proofs.Common.{◌≡◌, map}
use Rattle.redis_resp.specs.Value.{tree}
use Rattle.test_costs.specs.Below.{below}
use Rattle.test_costs.specs.Replies.{field_trees}
use Rattle.test_costs.proofs.replies.fields.Given as goal

-- the fields so far
abbrev pub invariant-loop-field : goal.invariant-loop-field
invariant-loop-field l = map tree l.items.items ≡ below (field_trees l.index) l.field-counter
