use Rattle.std.proofs.Common.{◌∙◌, ◌++◌, List, ℕ, ap, length}
use Rattle.redis_streams.specs.Pending.{pending_reading}
use Rattle.redis_streams.specs.PendingMeaning.{pending_meaning}
use Rattle.redis_c.specs.Records.{HoldSummary, IsSummaryAt, summary_consumers, summary_text}
use Rattle.redis_c.proofs.RecordLemmas.{as_many_consumers, copied_are, summary_at, summary_in_front}
use Rattle.redis_c.proofs.replies.copy_summary.Goals as goal

pub returns : goal.returns
returns c =
    let put = c.in-Ok-put_summary in
    let p = put.pending in
    let copies = c.deref-2.result.now in
    let rows = c.deref.result.now in
    let s = pending_meaning c.in-Ok.found.0 in
    let is : IsSummaryAt copies p rows s =
    summary_at c.put_summary.new.texts.items copies p put.records.items rows c.deref-2.ensures.value
    c.deref.ensures.value s put.ensures.at in
    copied_are pending_reading c.args.bytes.now (HoldSummary p c.copy_rows.new.table c.copy_rows.new.texts)
    (λ x. length (summary_consumers x)) summary_text (length c.args.consumers.now) (length c.args.texts.now)
    c.in-Ok.found.1 s rows copies c.copy_rows.new.table c.copy_rows.new.texts c.copy_rows.result c.copy_rows.ensures
    c.in-Ok.ensures.ok (as_many_consumers copies p rows s is)
    (c.deref-2.ensures.value ∙ put.ensures.more
    ∙ ap (λ (x : List ℕ). x ++ summary_text s) c.new-copies.ensures.items)
    (summary_in_front p rows c.copy_rows.new.table copies c.copy_rows.new.texts s is)
