use Rattle.std.proofs.Common.{◌≡◌, ◌≢◌, [], None, rules}
use Rattle.redis_resp.specs.Table.{table_reading}
use Rattle.redis_resp.specs.declared.value.error.ParsingError.TheVariants.{Memory}
use Rattle.stream_entries.specs.InForms.{rows_in_forms}
use Rattle.stream_entries.specs.ItemsLeft.{item_tree, trees_left}
use Rattle.stream_entries.specs.Read.{claim_entries}
use Rattle.stream_entries.specs.Rows.{entries_reading, standard_entries}
use Rattle.stream_entries.proofs.InFormsLemmas.{forms_start, forms_next, forms_all, forms_refused, none_behind}
use Rattle.stream_entries.proofs.StreamsLemmas.{no_streams}
use Rattle.stream_entries.proofs.streams.read_streams.Goals as goal

pub loop-row-init : goal.loop-row-init
loop-row-init g c =
    forms_start (table_reading (entries_reading standard_entries)) (table_reading (entries_reading claim_entries))
    (trees_left g.S.Source.values_left g.S.Source.pairs_left c.args.left) _
    (no_streams c.in_ok-keys.keys c.in_ok-keys.ensures.items)

pub loop-row-preserved : goal.loop-row-preserved
loop-row-preserved g c =
    forms_next (table_reading (entries_reading standard_entries)) (table_reading (entries_reading claim_entries))
    (trees_left g.S.Source.values_left g.S.Source.pairs_left c.args.left) _ _
    (item_tree g.S.Source.seen c.in-Some.row) _ _ c.in-Some.ensures c.in_ok-longer.ensures.ok c.loop-row.invariant

pub returns-in_err-longer-clause-err : goal.returns-in_err-longer-clause-err
returns-in_err-longer-clause-err g c =
    let all = trees_left g.S.Source.values_left g.S.Source.pairs_left c.args.left in
    let stop : c.in_err-longer.field-0.0 ≢ Memory → rows_in_forms all ≡ (None, None) =
    λ h. forms_refused (table_reading (entries_reading standard_entries))
    (table_reading (entries_reading claim_entries)) all _ _
    (item_tree g.S.Source.seen c.in-Some.row) _ c.in-Some.ensures
    (none_behind _ _ (c.in_err-longer.ensures.err h)) c.loop-row.invariant in
    search rules

pub returns-clause-ok : goal.returns-clause-ok
returns-clause-ok g c =
    let all = trees_left g.S.Source.values_left g.S.Source.pairs_left c.args.left in
    let none : trees_left g.S.Source.values_left g.S.Source.pairs_left c.loop-row.left ≡ [] = search rules in
    forms_all (table_reading (entries_reading standard_entries))
    (table_reading (entries_reading claim_entries)) all _ _ none c.loop-row.invariant
