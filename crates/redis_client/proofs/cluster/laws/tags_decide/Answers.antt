use Rattle.redis_client.proofs.ClusterLemmas.TagLemmas.{tags_decide, whole_keys_decide}
use Rattle.redis_client.proofs.cluster.laws.tags_decide.Goals as goal

pub returns-clause-tag : goal.returns-clause-tag
returns-clause-tag c = tags_decide

pub returns-clause-whole : goal.returns-clause-whole
returns-clause-whole c = whole_keys_decide
