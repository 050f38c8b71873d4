use Rattle.redis_wire.proofs.BoundedLemmas.{whole_small}
use Rattle.redis_wire.proofs.laws.few_bytes_have_few_values.Goals as goal

pub returns : goal.returns
returns c = whole_small
