use Rattle.redis_client.proofs.ClusterLemmas.SentenceLemmas.{sentences_tell}
use Rattle.redis_client.proofs.cluster.laws.sentences_tell.Goals as goal

pub returns : goal.returns
returns c = sentences_tell
