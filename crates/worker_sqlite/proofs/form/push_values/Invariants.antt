use Rattle.std.proofs.Common.{◌≡◌, ◌++◌, take, flat_map}
use Rattle.worker_sqlite.specs.Form.{value_text}
use Rattle.worker_sqlite.proofs.form.push_values.Given as goal

abbrev pub invariant-loop-column : goal.invariant-loop-column
invariant-loop-column l = l.out.items ≡ l.fn.out.items ++ flat_map value_text (take l._column-index l.columns)
