use Rattle.std.proofs.Common.{◌≡◌, ◌≢◌, [], None, rules}
use Rattle.redis_resp.specs.declared.value.error.ParsingError.TheVariants.{Memory}
use Rattle.stream_entries.specs.InForms.{items_in_forms}
use Rattle.stream_entries.specs.ItemsLeft.{item_tree, trees_left}
use Rattle.stream_entries.specs.Read.{claim_entries}
use Rattle.stream_entries.specs.Rows.{standard_entries}
use Rattle.stream_entries.proofs.InFormsLemmas.{forms_start, forms_next, forms_all, forms_refused, nothing_read}
use Rattle.stream_entries.proofs.entries.read_items.Goals as goal

pub loop-item-init : goal.loop-item-init
loop-item-init g c =
    let empty : c.new-none.result.items ≡ [] = search rules in
    forms_start standard_entries claim_entries (trees_left g.S.Source.values_left g.S.Source.pairs_left c.args.left) _
    (nothing_read c.new-none.result empty)

pub loop-item-preserved : goal.loop-item-preserved
loop-item-preserved g c =
    forms_next standard_entries claim_entries (trees_left g.S.Source.values_left g.S.Source.pairs_left c.args.left) _ _
    (item_tree g.S.Source.seen c.in-Some.item) _ _ c.in-Some.ensures c.in_ok-longer.ensures.ok c.loop-item.invariant

pub returns-in_err-longer-clause-err : goal.returns-in_err-longer-clause-err
returns-in_err-longer-clause-err g c =
    let all = trees_left g.S.Source.values_left g.S.Source.pairs_left c.args.left in
    let stop : c.in_err-longer.field-0.0 ≢ Memory → items_in_forms all ≡ (None, None) =
    λ h. forms_refused standard_entries claim_entries all _ _
    (item_tree g.S.Source.seen c.in-Some.item) _ c.in-Some.ensures
    (c.in_err-longer.ensures.err h) c.loop-item.invariant in
    search rules

pub returns-clause-ok : goal.returns-clause-ok
returns-clause-ok g c =
    let all = trees_left g.S.Source.values_left g.S.Source.pairs_left c.args.left in
    let none : trees_left g.S.Source.values_left g.S.Source.pairs_left c.loop-item.left ≡ [] = search rules in
    forms_all standard_entries claim_entries all _ _ none c.loop-item.invariant
