use Rattle.redis_wire.proofs.ReadBackLemmas.{answers_are_read}
use Rattle.redis_wire.proofs.laws.answers_are_read.Goals as goal

pub returns : goal.returns
returns c = answers_are_read
