use Rattle.std.proofs.Common.{◌≡◌, ◌++◌, codes}
use Rattle.worker_sqlite.specs.Form.{repeated}
use Rattle.worker_sqlite.proofs.form.push_places.Given as goal

abbrev pub invariant-loop-value : goal.invariant-loop-value
invariant-loop-value l = l.out.items ≡ l.fn.out.items ++ (codes "(?, ?" ++ repeated l._value (codes ", ?"))
