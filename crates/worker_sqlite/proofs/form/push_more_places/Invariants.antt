use Rattle.std.proofs.Common.{◌≡◌, ◌++◌}
use Rattle.worker_sqlite.specs.Form.{more_places_text}
use Rattle.worker_sqlite.proofs.form.push_more_places.Given as goal

abbrev pub invariant-loop-row : goal.invariant-loop-row
invariant-loop-row l = l.out.items ≡ l.fn.out.items ++ more_places_text l.width l._row
