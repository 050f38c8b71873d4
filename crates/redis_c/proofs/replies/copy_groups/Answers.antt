use Rattle.std.proofs.Common.{◌≡◌, ap, length, map, flat_map}
use Rattle.redis_streams.specs.Info.{groups_reading}
use Rattle.redis_streams.specs.InfoMeaning.{group_meaning, groups_meaning}
use Rattle.redis_c.specs.Records.{AreAt, IsGroupAt, HoldGroups, group_text}
use Rattle.redis_c.proofs.RecordLemmas.{are_as_many, copied_are, copies_are, held_in_front, rows_at}
use Rattle.redis_c.proofs.replies.copy_groups.Goals as goal

pub returns : goal.returns
returns c =
    let put = c.in-Ok-put_groups in
    let texts = c.put_groups.new.texts.items in
    let copies = c.deref-3.result.now in
    let rows = c.deref-2.result.now in
    let ms = groups_meaning c.in-Ok.found.0 in
    let told = map group_meaning c.deref.result.now in
    let told_is : told ≡ ms = ap (map group_meaning) c.deref.ensures.value in
    let are : AreAt (IsGroupAt copies) rows ms =
    rows_at IsGroupAt texts copies c.new-copies.result.items put.records.items rows told ms c.deref-3.ensures.value
    c.deref-2.ensures.value told_is put.ensures.at in
    copied_are groups_reading c.args.bytes.now (HoldGroups c.copy_rows.new.table c.copy_rows.new.texts) length
    (flat_map group_text) (length c.args.groups.now) (length c.args.texts.now) c.in-Ok.found.1 ms rows copies
    c.copy_rows.new.table c.copy_rows.new.texts c.copy_rows.result c.copy_rows.ensures c.in-Ok.ensures.ok
    (are_as_many (IsGroupAt copies) rows ms are)
    (copies_are IsGroupAt texts copies c.new-copies.result.items put.records.items rows told ms c.deref-3.ensures.value
    c.deref-2.ensures.value told_is group_text put.ensures.more c.new-copies.ensures.items)
    (held_in_front IsGroupAt rows c.copy_rows.new.table copies c.copy_rows.new.texts ms are)
