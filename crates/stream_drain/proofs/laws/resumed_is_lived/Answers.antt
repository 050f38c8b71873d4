use Rattle.stream_drain.proofs.ResumedLemmas.{resumed_is_lived}
use Rattle.stream_drain.proofs.laws.resumed_is_lived.Goals as goal

pub returns : goal.returns
returns c = resumed_is_lived
