use Rattle.std.proofs.Common.{rules, ap, map}
use Rattle.redis_resp.specs.Refusal.{Refuses, OneRefused}
use Rattle.stream_entries.specs.EntryMeaning.{entry_meaning}
use Rattle.stream_entries.specs.Rows.{items_entries}
use Rattle.stream_entries.proofs.ItemFormLemmas.{entries_start, entries_next, entries_refused}
use Rattle.stream_entries.proofs.items.read_items.Goals as goal

pub loop-item-init : goal.loop-item-init
loop-item-init g c = entries_start g.F.ItemForm.form (g.S.Source.values_left c.args.values) _
    (ap (map entry_meaning) c.in_ok-ids.ensures.items)

pub returns-in_err-push-clause-err : goal.returns-in_err-push-clause-err
returns-in_err-push-clause-err g c =
    let all = g.S.Source.values_left c.args.values in
    let stop : Refuses (items_entries g.F.ItemForm.form) (OneRefused g.F.ItemForm.refuses) all c.in_err-push.field-0.0 =
    entries_refused g.F.ItemForm.form all g.F.ItemForm.refuses _ _ _
    (g.S.Source.seen c.in-Some.item) _ c.in-Some.ensures c.in_err-push.ensures.err c.loop-item.invariant in
    search rules

pub loop-item-preserved : goal.loop-item-preserved
loop-item-preserved g c =
    entries_next g.F.ItemForm.form (g.S.Source.values_left c.args.values) _ _
    (g.S.Source.seen c.in-Some.item) _ _ c.in-Some.ensures c.in_ok-push.ensures.ok c.loop-item.invariant
