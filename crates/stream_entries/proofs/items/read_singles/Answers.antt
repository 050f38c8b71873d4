use Rattle.std.proofs.Common.{rules, ap, map}
use Rattle.redis_resp.specs.Refusal.{Refuses, OneRefused}
use Rattle.redis_resp.specs.Tree.{single}
use Rattle.stream_entries.specs.EntryMeaning.{entry_meaning}
use Rattle.stream_entries.specs.Rows.{items_entries}
use Rattle.stream_entries.proofs.ItemFormLemmas.{entries_start, entries_next, entries_refused}
use Rattle.stream_entries.proofs.items.read_singles.Goals as goal

pub loop-key-init : goal.loop-key-init
loop-key-init g c = entries_start g.F.ItemForm.form (map single (g.S.Source.pairs_left c.args.pairs)) _
    (ap (map entry_meaning) c.in_ok-ids.ensures.items)

pub returns-in_err-push_single-clause-err : goal.returns-in_err-push_single-clause-err
returns-in_err-push_single-clause-err g c =
    let all = map single (g.S.Source.pairs_left c.args.pairs) in
    let stop : Refuses (items_entries g.F.ItemForm.form)
    (OneRefused g.F.ItemForm.refuses) all c.in_err-push_single.field-0.0 =
    entries_refused g.F.ItemForm.form all g.F.ItemForm.refuses _ _ _
    (single (g.S.Source.seen c.in-Some.key, g.S.Source.seen c.in-Some.value)) _
    (ap (map single) c.in-Some.ensures) c.in_err-push_single.ensures.err c.loop-key.invariant in
    search rules

pub loop-key-preserved : goal.loop-key-preserved
loop-key-preserved g c =
    entries_next g.F.ItemForm.form (map single (g.S.Source.pairs_left c.args.pairs)) _ _
    (single (g.S.Source.seen c.in-Some.key, g.S.Source.seen c.in-Some.value)) _ _
    (ap (map single) c.in-Some.ensures) c.in_ok-push_single.ensures.ok c.loop-key.invariant
