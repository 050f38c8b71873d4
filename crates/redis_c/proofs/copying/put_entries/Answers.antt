use Rattle.redis_streams.specs.PendingMeaning.{pending_id_meaning}
use Rattle.redis_c.specs.Records.{IsPendingAt, pending_text}
use Rattle.redis_c.proofs.RecordLemmas.{entry_stays, put_next}
use Rattle.redis_c.proofs.copying.put_entries.Goals as goal

pub loop-entry-preserved : goal.loop-entry-preserved
loop-entry-preserved c =
    put_next IsPendingAt entry_stays pending_text pending_id_meaning c.args.entries.now c.loop-entry.entry-index c.entry-item.result
    c.entry-item.result c.args.texts.now.items c.loop-entry.texts.items c.put_pending.new.texts.items c.loop-entry.records.items
    c.push.new.self.items c.in_ok-put_pending.field-0 c.loop-entry-test.true c.entry-item.is c.loop-entry.invariant
    c.in_ok-put_pending.ensures.more c.in_ok-put_pending.ensures.at c.in_ok-push.ensures.items
