use Rattle.std.proofs.Common.{◌≡◌, ◌++◌, None}
use Rattle.worker.specs.Answers.{first_nil}
use Rattle.worker.proofs.reading.nil_id_in_place.Given as goal

-- all so far have fields
abbrev pub invariant-loop-entry : goal.invariant-loop-entry
invariant-loop-entry l = record {
  whole : l.yielded ++ l.entry-iterator ≡ l.fn.entries;
  none : first_nil l.yielded ≡ None;
}
