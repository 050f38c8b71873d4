use Rattle.std.proofs.lemmas.Result.{err_from_is_err_and}
use Rattle.stream_in_place.specs.Copied.{pairs_or_none}
use Rattle.worker_table.proofs.CellsLemmas.{one_of}
use Rattle.worker_table.proofs.columns.push_cells.Goals as goal

pub returns-in_err-read_column_cell-clause-err : goal.returns-in_err-read_column_cell-clause-err
returns-in_err-read_column_cell-clause-err c =
    let p = err_from_is_err_and c.from_residual.result c.from_residual.ensures.1 in
    rw (p.1, p.2)
    (one_of (pairs_or_none c.args.entry.now.fields) c.args.columns.now c.loop-column.column-index c.column-item.result
    c.in_err-read_column_cell.field-0.0 c.loop-column-test.true c.column-item.is c.in_err-read_column_cell.ensures.err)
