use Rattle.redis_client.proofs.ClusterLemmas.TagLemmas.{slots_of_partitions}
use Rattle.redis_client.proofs.cluster.laws.slots_of_partitions.Goals as goal

pub returns : goal.returns
returns c = slots_of_partitions
