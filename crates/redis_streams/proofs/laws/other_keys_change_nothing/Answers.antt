use Rattle.redis_streams.proofs.OtherKeysLemmas.{stream_law, tracked_law, consumer_law, group_law}
use Rattle.redis_streams.proofs.laws.other_keys_change_nothing.Goals as goal

pub returns-clause-stream : goal.returns-clause-stream
returns-clause-stream c = stream_law

pub returns-clause-tracked : goal.returns-clause-tracked
returns-clause-tracked c = tracked_law

pub returns-clause-consumer : goal.returns-clause-consumer
returns-clause-consumer c = consumer_law

pub returns-clause-group : goal.returns-clause-group
returns-clause-group c = group_law
