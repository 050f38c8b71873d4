use Rattle.server_store.specs.Pending.{with_more}
use Rattle.server_store.proofs.CountLemmas.{changed_next}
use Rattle.server_store.proofs.group.count_one_more.Goals as goal

pub loop-consumer-preserved : goal.loop-consumer-preserved
loop-consumer-preserved c =
    changed_next (with_more c.args.number) c.args.consumers.now c.loop-consumer.consumers
    c.loop-consumer.consumer-index c.consumer-item.result c.count_more.new.consumer c.loop-consumer-test.true
    c.loop-consumer.invariant c.count_more.ensures
