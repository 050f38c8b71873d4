use Rattle.stream_drain.proofs.FiledLemmas.{acknowledged_is_filed}
use Rattle.stream_drain.proofs.laws.acknowledged_is_filed.Goals as goal

pub returns : goal.returns
returns c = acknowledged_is_filed
