use Rattle.std.proofs.Common.{◌≡◌, ◌++◌, take}
use Rattle.std.specs.List.{flat_map}
use Rattle.server_commands.specs.Sent.{outcome_bytes}
use Rattle.server_commands.proofs.writing.push_outcomes.Given as goal

abbrev pub invariant-loop-outcome : goal.invariant-loop-outcome
invariant-loop-outcome l =
    l.out.items ≡ l.initial.out.items ++ flat_map (outcome_bytes l.protocol) (take l.outcome-index l.outcome-items)
