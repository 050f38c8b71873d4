use Rattle.std.proofs.Common.{sym, ◌∙◌}
use Rattle.redis_resp.specs.Value.{tree}
use Rattle.redis_resp.specs.SameLaws.{same-Decides}
use Rattle.redis_resp.proofs.value.equality.ValuePartialEq.eq.Goals as goal

pub returns-clause-equal_trees : goal.returns-clause-equal_trees
returns-clause-equal_trees c =
    let decides = same-Decides (tree c.args.self.now) (tree c.args.other.now) in
    (λ h. decides.0 (sym c.are_alike.ensures ∙ h), λ e. c.are_alike.ensures ∙ decides.1 e)
