use Rattle.std.proofs.Common.{◌≡◌, length, map}
use Rattle.redis_resp.specs.Source.{all_left}
use Rattle.redis_resp.specs.Value.{tree, tree_of_pair}
use Rattle.redis_resp.proofs.ReadableLemmas.{fields_read}
use Rattle.redis_resp.proofs.value.readable.is_fields.Given as goal

abbrev pub invariant-loop-key : goal.invariant-loop-key
invariant-loop-key l = fields_read (all_left (λ vs. map tree vs.now) (λ ps. map tree_of_pair ps.now) l.pairs)
    ≡ fields_read (all_left (λ vs. map tree vs.now) (λ ps. map tree_of_pair ps.now) l.initial.pairs)

abbrev pub decreases-loop-key : goal.decreases-loop-key
decreases-loop-key l = length (all_left (λ vs. map tree vs.now) (λ ps. map tree_of_pair ps.now) l.pairs)
