use Rattle.stream_entries.proofs.FieldsLemmas.{copy_starts, copy_goes, copy_ends}
use Rattle.stream_entries.proofs.stream_id.copy_fields.Goals as goal

pub loop-name-init : goal.loop-name-init
loop-name-init c =
    copy_starts c.args.fields.now c.new-copies.result _ c.into_iter-name-iterator.ensures.into_iter_gives.0
    c.into_iter-name-iterator.ensures.into_iter_gives.4 c.new-copies.ensures.empty

pub loop-name-preserved : goal.loop-name-preserved
loop-name-preserved c =
    copy_goes _ _ _ c.in-Some.name.now c.in-Some.value.now _ _ c.in-Some.ensures.steps c.in_ok-put_copy.ensures
    c.loop-name.invariant

pub returns : goal.returns
returns c = copy_ends c.args.fields.now c.loop-name.name-iterator _ c.in-None.ensures.steps.0 c.loop-name.invariant
