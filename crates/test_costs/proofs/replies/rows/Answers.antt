use Rattle.test_costs.proofs.BelowLemmas.{row_pushed}
use Rattle.test_costs.proofs.replies.rows.Goals as goal

pub loop-index-preserved : goal.loop-index-preserved
loop-index-preserved c = row_pushed _ _ _ _ _ c.in_ok-push.ensures.items c.loop-index.invariant c.in_ok-make_row.ensures
