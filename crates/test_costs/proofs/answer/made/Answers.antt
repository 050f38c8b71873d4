use Rattle.test_costs.proofs.AnswerLemmas.{one_more}
use Rattle.test_costs.specs.Answer.{entry_bytes, head_bytes}
use Rattle.test_costs.proofs.answer.made.Goals as goal

pub loop-index-preserved : goal.loop-index-preserved
loop-index-preserved c =
    one_more entry_bytes c.loop-index.index (head_bytes c.args.form c.args.entries) _ _ c.loop-index.invariant
    c.in_ok-push_entry.ensures
