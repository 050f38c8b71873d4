use Rattle.std.proofs.Common.{◌≡◌, ◌++◌, rules, refl}
use Rattle.std.specs.Prelude.{codes, decimal}
use Rattle.redis_resp.specs.Tree.{bulk}
use Rattle.redis_resp.specs.Value.{tree}
use Rattle.test_costs.proofs.BelowLemmas.{two_pushed}
use Rattle.test_costs.specs.Replies.{field_trees}
use Rattle.test_costs.proofs.replies.fields.Goals as goal

pub loop-field-preserved : goal.loop-field-preserved
loop-field-preserved c =
    let name : tree c.text.result ≡ bulk (codes "field-" ++ decimal c.loop-field.field-counter) = search rules in
    let value : tree c.text-in-loop-field.result
    ≡ bulk (codes "value-" ++ (decimal c.args.index ++ (codes "-" ++ decimal c.loop-field.field-counter))) =
    search rules in
    two_pushed
    (field_trees c.args.index) c.loop-field.field-counter _ _ _ _ _ c.in_ok-push.ensures.items
    c.in_ok-push-2.ensures.items c.loop-field.invariant
    (rw (name, value) refl)
