use Rattle.model_workers.proofs.LoopsLemmas.LivedLemmas.{drains_lived}
use Rattle.model_workers.proofs.loops.laws.loops_are_lived.Goals as goal

pub returns : goal.returns
returns c = drains_lived
