use Rattle.stream_run.proofs.RoundsLemmas.{law_holds}
use Rattle.stream_run.proofs.laws.rounds_are_reached.Goals as goal

pub returns : goal.returns
returns c = law_holds
