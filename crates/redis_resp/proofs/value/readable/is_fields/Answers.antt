use Rattle.std.proofs.Common.{◌≡◌, ◌∙◌, map, rules, sym, true}
use Rattle.std.specs.Option.{is_some}
use Rattle.redis_resp.specs.Source.{all_left}
use Rattle.redis_resp.specs.Text.{text_reading}
use Rattle.redis_resp.specs.Value.{tree, tree_of_pair}
use Rattle.redis_resp.proofs.ReadableLemmas.{next_reads}
use Rattle.redis_resp.proofs.value.readable.is_fields.Goals as goal

pub loop-key-preserved : goal.loop-key-preserved
loop-key-preserved c =
    let read : is_some (text_reading (tree c.in-Some-next_left.key.now)) ≡ true = search rules in
    sym (next_reads (all_left (λ vs. map tree vs.now) (λ ps. map tree_of_pair ps.now) c.loop-key.pairs) _
    (tree c.in-Some-next_left.key.now, tree c.in-Some-next_left.field-0-1.now) c.in-Some-next_left.ensures read)
    ∙ c.loop-key.invariant
