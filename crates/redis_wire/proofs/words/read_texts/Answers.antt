use Rattle.std.proofs.Common.{◌≡◌, ◌++◌, [], ◌∷◌, rules, arith, map, ap, ◌∙◌}
use Rattle.std.proofs.lemmas.Grind.{common_steps}
use Rattle.std.specs.Vec.Iter.{into_iter_items}
use Rattle.redis_resp.specs.Value.{tree}
use Rattle.redis_resp.proofs.ReadLemmas.{read_next}
use Rattle.redis_resp.proofs.TreeLemmas.{tree-BulkString}
use Rattle.redis_wire.specs.Words.{bulk_text}
use Rattle.redis_wire.proofs.words.read_texts.Goals as goal

pub loop-value-preserved : goal.loop-value-preserved
loop-value-preserved c =
    let steps : into_iter_items c.loop-value.value-iterator ≡ c.in-Some.value ∷ into_iter_items c.next.new.self =
    search rules in
    let pushed : map (λ w. w.items) c.push.new.self.items ≡ map (λ w. w.items) c.loop-value.words.items
    ++ c.in-BulkString.word.items ∷ [] = grind (arith, common_steps) in
    record {
      so_far = read_next bulk_text _ _ _ (tree c.in-Some.value) c.in-BulkString.word.items _ _ (ap (map tree) steps)
          (ap bulk_text (ap tree c.in-BulkString.is ∙ tree-BulkString c.in-BulkString.word)) pushed
          c.loop-value.invariant.so_far;
      count = search rules;
    }
