use Rattle.redis_client.proofs.ClusterLemmas.HeadLemmas.{behind_head}
use Rattle.redis_client.proofs.cluster.bytes.bytes_behind.Goals as goal

pub returns : goal.returns
returns c = behind_head c.args.head.now c.args.bytes.now c.strip_prefix.result c.strip_prefix.ensures.cases
