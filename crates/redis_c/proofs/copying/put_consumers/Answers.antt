use Rattle.redis_streams.specs.InfoMeaning.{consumer_meaning}
use Rattle.redis_c.specs.Records.{IsConsumerAt, consumer_text}
use Rattle.redis_c.proofs.RecordLemmas.{consumer_stays, put_next}
use Rattle.redis_c.proofs.copying.put_consumers.Goals as goal

pub loop-consumer-preserved : goal.loop-consumer-preserved
loop-consumer-preserved c =
    put_next IsConsumerAt consumer_stays consumer_text consumer_meaning c.args.consumers.now c.loop-consumer.consumer-index c.consumer-item.result
    c.consumer-item.result c.args.texts.now.items c.loop-consumer.texts.items c.put_consumer.new.texts.items c.loop-consumer.records.items
    c.push.new.self.items c.in_ok-put_consumer.field-0 c.loop-consumer-test.true c.consumer-item.is c.loop-consumer.invariant
    c.in_ok-put_consumer.ensures.more c.in_ok-put_consumer.ensures.at c.in_ok-push.ensures.items
