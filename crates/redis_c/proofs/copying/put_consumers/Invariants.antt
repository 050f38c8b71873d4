use Rattle.std.proofs.Common.{◌≡◌, ◌++◌, flat_map, map, take}
use Rattle.redis_streams.specs.InfoMeaning.{consumer_meaning}
use Rattle.redis_c.specs.Records.{AreAt, IsConsumerAt, consumer_text}
use Rattle.redis_c.proofs.copying.put_consumers.Given as goal

-- the texts so far are appended to the others, and the records so far describe them
abbrev pub invariant-loop-consumer : goal.invariant-loop-consumer
invariant-loop-consumer l =
    let front = map consumer_meaning (take l.consumer-index l.consumers) in
    (l.texts.items ≡ l.fn.texts.items ++ flat_map consumer_text front) × AreAt (IsConsumerAt l.texts.items) l.records.items front
