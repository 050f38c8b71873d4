use Rattle.redis_streams.specs.InfoMeaning.{group_meaning}
use Rattle.redis_c.specs.Records.{IsGroupAt, group_text}
use Rattle.redis_c.proofs.RecordLemmas.{group_stays, put_next}
use Rattle.redis_c.proofs.copying.put_groups.Goals as goal

pub loop-group-preserved : goal.loop-group-preserved
loop-group-preserved c =
    put_next IsGroupAt group_stays group_text group_meaning c.args.groups.now c.loop-group.group-index c.group-item.result
    c.group-item.result c.args.texts.now.items c.loop-group.texts.items c.put_group.new.texts.items c.loop-group.records.items
    c.push.new.self.items c.in_ok-put_group.field-0 c.loop-group-test.true c.group-item.is c.loop-group.invariant
    c.in_ok-put_group.ensures.more c.in_ok-put_group.ensures.at c.in_ok-push.ensures.items
