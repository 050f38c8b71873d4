use Rattle.std.proofs.Common.{◌≡◌, refl, ap, ◌∙◌, true, rules}
use Rattle.redis_resp.specs.Value.{tree}
use Rattle.redis_resp.specs.Same.{same}
use Rattle.redis_resp.proofs.TreeLemmas.{tree-Map, tree-Attribute}
use Rattle.redis_resp.proofs.SameLemmas.{each_long, pairs_long}
use Rattle.redis_resp.proofs.value.equality.+alike.Goals as goal

pub are_alike-returns-in-Map-Map : goal.are_alike-returns-in-Map-Map
are_alike-returns-in-Map-Map t c =
    let a = ap tree c.in-Map-Map.is-0 ∙ tree-Map c.in-Map-Map.x in
    let b = ap tree c.in-Map-Map.is-1 ∙ tree-Map c.in-Map-Map.y in
    c.are_pairs_alike.ensures ∙ rw (c.deref-in-Map-Map.ensures.value, c.deref-in-Map-Map-2.ensures.value, a, b) refl

pub are_alike-returns-then-are_alike : goal.are_alike-returns-then-are_alike
are_alike-returns-then-are_alike t c =
    let a = ap tree c.in-Attribute-Attribute.is-0
    ∙ tree-Attribute c.in-Attribute-Attribute.x c.in-Attribute-Attribute.m in
    let b = ap tree c.in-Attribute-Attribute.is-1
    ∙ tree-Attribute c.in-Attribute-Attribute.y c.in-Attribute-Attribute.n in
    let first : same (tree c.in-Attribute-Attribute.x.value) (tree c.in-Attribute-Attribute.y.value) ≡ true =
    search rules in
    c.are_pairs_alike-then-are_alike.ensures
    ∙ rw (c.deref-then-are_alike.ensures.value, c.deref-then-are_alike-2.ensures.value, a, b, first) refl

pub are_all_alike-returns-then-a-b : goal.are_all_alike-returns-then-a-b
are_all_alike-returns-then-a-b t c = each_long c.args.a.now c.args.b.now c.if-a-b.true

pub are_pairs_alike-returns-then-a-b : goal.are_pairs_alike-returns-then-a-b
are_pairs_alike-returns-then-a-b t c = pairs_long c.args.a.now c.args.b.now c.if-a-b.true
