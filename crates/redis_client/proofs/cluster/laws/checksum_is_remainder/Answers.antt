use Rattle.redis_client.proofs.ClusterLemmas.DivisionLemmas.{checksum_is_remainder}
use Rattle.redis_client.proofs.cluster.laws.checksum_is_remainder.Goals as goal

pub returns : goal.returns
returns c = checksum_is_remainder
