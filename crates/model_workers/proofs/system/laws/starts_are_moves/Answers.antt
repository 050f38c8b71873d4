use Rattle.model_workers.proofs.SystemLemmas.RoundLemmas as rounds
use Rattle.model_workers.proofs.system.laws.starts_are_moves.Goals as goal

pub returns : goal.returns
returns c = rounds.starts_are_moves
