use Rattle.std.proofs.Common.{rules}
use Rattle.test_notation.specs.ConfigText.{IsConfigText}
use Rattle.test_notation.proofs.VectorsLemmas.{adds_more}
use Rattle.test_notation.proofs.vectors.config.push_config_rows.Goals as goal

pub loop-name-preserved : goal.loop-name-preserved
loop-name-preserved c = record {
  rows =
      adds_more IsConfigText _ _ _ c.args.vectors.now c.loop-name.name-index c.loop-name-item.result
      c.loop-name-test.true c.loop-name-item.is c.loop-name.invariant.rows c.in_ok-push_answer.ensures.row;
  count = search rules;
}
