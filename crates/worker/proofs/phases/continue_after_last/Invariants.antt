use Rattle.std.proofs.Common.{◌≡◌, ◌++◌, option_map}
use Rattle.model_server.specs.Group.Worker.{after_own}
use Rattle.worker.specs.Taking.{all_delivered}
use Rattle.worker.proofs.PhaseLemmas.{phase_behind}
use Rattle.worker.proofs.phases.continue_after_last.Given as goal

-- the last of the entries so far
abbrev pub invariant-loop-entry : goal.invariant-loop-entry
invariant-loop-entry l = record {
  whole : l.yielded ++ l.entry-iterator ≡ l.fn.entries;
  last : after_own (all_delivered l.yielded) ≡ phase_behind (option_map (λ id. id.now) l.last);
}
