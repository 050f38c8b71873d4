use Rattle.std.proofs.Common.{◌≡◌, ap, length, map, flat_map}
use Rattle.redis_streams.specs.Pending.{pending_count_reading}
use Rattle.redis_streams.specs.PendingMeaning.{pending_id_meaning, pending_ids_meaning}
use Rattle.redis_c.specs.Records.{AreAt, IsPendingAt, HoldEntries, pending_text}
use Rattle.redis_c.proofs.RecordLemmas.{are_as_many, copied_are, copies_are, held_in_front, rows_at}
use Rattle.redis_c.proofs.replies.copy_entries.Goals as goal

pub returns : goal.returns
returns c =
    let put = c.in-Ok-put_entries in
    let texts = c.put_entries.new.texts.items in
    let copies = c.deref-3.result.now in
    let rows = c.deref-2.result.now in
    let ms = pending_ids_meaning c.in-Ok.found.0 in
    let told = map pending_id_meaning c.deref.result.now in
    let told_is : told ≡ ms = ap (map pending_id_meaning) c.deref.ensures.value in
    let are : AreAt (IsPendingAt copies) rows ms =
    rows_at IsPendingAt texts copies c.new-copies.result.items put.records.items rows told ms c.deref-3.ensures.value
    c.deref-2.ensures.value told_is put.ensures.at in
    copied_are pending_count_reading c.args.bytes.now (HoldEntries c.copy_rows.new.table c.copy_rows.new.texts) length
    (flat_map pending_text) (length c.args.entries.now) (length c.args.texts.now) c.in-Ok.found.1 ms rows copies
    c.copy_rows.new.table c.copy_rows.new.texts c.copy_rows.result c.copy_rows.ensures c.in-Ok.ensures.ok
    (are_as_many (IsPendingAt copies) rows ms are)
    (copies_are IsPendingAt texts copies c.new-copies.result.items put.records.items rows told ms c.deref-3.ensures.value
    c.deref-2.ensures.value told_is pending_text put.ensures.more c.new-copies.ensures.items)
    (held_in_front IsPendingAt rows c.copy_rows.new.table copies c.copy_rows.new.texts ms are)
