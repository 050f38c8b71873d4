use Rattle.std.proofs.Common.{◌≡◌, ◌++◌, [], ◌∷◌, rules, arith, length, map, ap}
use Rattle.std.proofs.lemmas.Grind.{common_steps}
use Rattle.std.specs.Vec.Iter.{into_iter_items}
use Rattle.redis_resp.specs.Value.{tree, tree_of_pair}
use Rattle.redis_wire.proofs.PairLemmas.{pairs_start, pairs_step}
use Rattle.redis_wire.proofs.groups.make_pairs.Goals as goal

pub loop-key-init : goal.loop-key-init
loop-key-init c = record {
  so_far = pairs_start _ (into_iter_items c.into_iter-rest.result) (ap (map tree_of_pair) c.in_ok-pairs.ensures.items);
  count = search rules;
}

pub loop-key-preserved : goal.loop-key-preserved
loop-key-preserved c =
    let first : into_iter_items c.loop-key.rest ≡ c.in-Some.key ∷ into_iter_items c.next.new.self = search rules in
    let second : into_iter_items c.next.new.self ≡ c.in-Some-next.value ∷ into_iter_items c.next-in-Some.new.self =
    search rules in
    let pushed : map tree_of_pair c.push.new.self.items ≡ map tree_of_pair c.loop-key.pairs.items
    ++ (tree c.in-Some.key, tree c.in-Some-next.value) ∷ [] = grind (arith, common_steps) in
    record {
      so_far = pairs_step _ _ _ _ _ _ _ _ first second pushed c.loop-key.invariant.so_far;
      count = grind (arith, common_steps, ap length first, ap length second);
    }
