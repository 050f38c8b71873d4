use Rattle.std.proofs.Common.{◌≡◌, ◌++◌, take, flat_map}
use Rattle.worker_sqlite.specs.Form.{column_text}
use Rattle.worker_sqlite.proofs.form.push_columns.Given as goal

abbrev pub invariant-loop-column : goal.invariant-loop-column
invariant-loop-column l = l.out.items ≡ l.fn.out.items ++ flat_map column_text (take l.column-index l.columns)
