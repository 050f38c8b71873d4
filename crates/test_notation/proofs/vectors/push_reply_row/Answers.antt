use Rattle.redis_resp.specs.Value.{tree}
use Rattle.test_notation.proofs.VectorsLemmas.{answered_row}
use Rattle.test_notation.proofs.vectors.push_reply_row.Goals as goal

pub returns-in-Ok-clause-row : goal.returns-in-Ok-clause-row
returns-in-Ok-clause-row g c = answered_row _ _ _ _
    (tree c.in-Ok.value) c.args.notation _ _ _ _ c.push_answer_row.result c.push_answer_row.ensures.row
