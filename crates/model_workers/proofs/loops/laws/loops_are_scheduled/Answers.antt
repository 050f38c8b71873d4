use Rattle.model_workers.proofs.LoopsLemmas.ScheduledLemmas.{loops_are_scheduled}
use Rattle.model_workers.proofs.loops.laws.loops_are_scheduled.Goals as goal

pub returns : goal.returns
returns c = loops_are_scheduled
