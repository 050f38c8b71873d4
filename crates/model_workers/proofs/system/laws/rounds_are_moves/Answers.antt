use Rattle.model_workers.proofs.SystemLemmas.RoundLemmas.{others_change_nothing, failures_are_moves}
use Rattle.model_workers.proofs.SystemLemmas.RoundLemmas as rounds
use Rattle.model_workers.proofs.system.laws.rounds_are_moves.Goals as goal

pub returns-clause-others : goal.returns-clause-others
returns-clause-others c = others_change_nothing

pub returns-clause-rounds : goal.returns-clause-rounds
returns-clause-rounds c = rounds.rounds_are_moves

pub returns-clause-failures : goal.returns-clause-failures
returns-clause-failures c = failures_are_moves
