use Rattle.stream_drain.proofs.ResumedLemmas.{known_are_there}
use Rattle.stream_drain.proofs.laws.known_are_there.Goals as goal

pub returns : goal.returns
returns c = known_are_there
