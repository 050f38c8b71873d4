use Rattle.std.proofs.Common.{length}
use Rattle.redis_resp.specs.Source.{all_left}
use Rattle.redis_resp.proofs.MapLemmas.{FieldsSoFar, at_key}
use Rattle.redis_resp.proofs.value.table.insert_fields.Given as goal

abbrev pub invariant-loop-key : goal.invariant-loop-key
invariant-loop-key g l = FieldsSoFar g.V.FromRedisValue.reading
    (all_left g.S.Source.values_left g.S.Source.pairs_left l.initial.pairs)
    (all_left g.S.Source.values_left g.S.Source.pairs_left l.pairs) (at_key g.V.FromRedisValue.meaning l.fields)

abbrev pub decreases-loop-key : goal.decreases-loop-key
decreases-loop-key g l = length (all_left g.S.Source.values_left g.S.Source.pairs_left l.pairs)
