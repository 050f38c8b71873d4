use Rattle.redis_streams.proofs.MoreFieldsLemmas.{stream_law}
use Rattle.redis_streams.proofs.OtherKeysLemmas.{full_law, full_group_law, full_consumer_law}
use Rattle.redis_streams.proofs.laws.other_keys_change_nothing_in_full.Goals as goal

pub returns-clause-whole : goal.returns-clause-whole
returns-clause-whole c = stream_law

pub returns-clause-stream : goal.returns-clause-stream
returns-clause-stream c = full_law

pub returns-clause-group : goal.returns-clause-group
returns-clause-group c = full_group_law

pub returns-clause-consumer : goal.returns-clause-consumer
returns-clause-consumer c = full_consumer_law
