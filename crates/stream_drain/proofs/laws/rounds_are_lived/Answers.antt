use Rattle.stream_drain.proofs.LivedLemmas.{lived}
use Rattle.stream_drain.proofs.laws.rounds_are_lived.Goals as goal

pub returns : goal.returns
returns c = lived
