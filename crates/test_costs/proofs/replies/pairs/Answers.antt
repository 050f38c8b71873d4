use Rattle.std.proofs.Common.{◌≡◌, ◌++◌, pos, rules, refl}
use Rattle.std.specs.Prelude.{codes, decimal}
use Rattle.redis_resp.proofs.TreeLemmas.{tree-Int}
use Rattle.redis_resp.specs.Tree.{bulk}
use Rattle.redis_resp.specs.Value.{tree}
use Rattle.test_costs.proofs.BelowLemmas.{two_pushed}
use Rattle.test_costs.specs.Replies.{pair_trees}
use Rattle.test_costs.proofs.replies.pairs.Goals as goal

pub loop-number-preserved : goal.loop-number-preserved
loop-number-preserved c =
    let name : tree c.text.result ≡ bulk (codes "n" ++ decimal c.loop-number.number-counter) = search rules in
    two_pushed pair_trees c.loop-number.number-counter _ _ _ _ _ c.in_ok-push.ensures.items c.in_ok-push-2.ensures.items
    c.loop-number.invariant
    (rw (name, tree-Int (pos 7)) refl)
