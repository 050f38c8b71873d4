use Rattle.std.proofs.Common.{◌∙◌, ap}
use Rattle.sqlite.specs.Values.{bound}
use Rattle.worker_sqlite.proofs.ValuesLemmas.{one_more}
use Rattle.worker_sqlite.proofs.values.push_values.Goals as goal

pub loop-cell-preserved : goal.loop-cell-preserved
loop-cell-preserved c = ap bound c.in_ok-push.ensures.items ∙ one_more c.args.values.now.items c.loop-cell.values.items c.convert_cell.result c.args.cells.now
    c.loop-cell.cell-index c.cell-item.result c.loop-cell-test.true c.cell-item.is c.loop-cell.invariant c.convert_cell.ensures
