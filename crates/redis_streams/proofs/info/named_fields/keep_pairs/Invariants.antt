use Rattle.std.proofs.Common.{Some, length}
use Rattle.redis_resp.specs.Source.{all_left}
use Rattle.redis_resp.specs.Table.{entries_meaning, entry_reading}
use Rattle.redis_resp.proofs.ReadLemmas.{ReadSoFar}
use Rattle.redis_streams.proofs.info.named_fields.keep_pairs.Given as goal

abbrev pub invariant-loop-key : goal.invariant-loop-key
invariant-loop-key g l = ReadSoFar (entry_reading (λ u. Some u))
    (all_left g.S.Source.values_left g.S.Source.pairs_left l.initial.left)
    (all_left g.S.Source.values_left g.S.Source.pairs_left l.left) (entries_meaning g.S.Source.seen l.pairs.items)

abbrev pub decreases-loop-key : goal.decreases-loop-key
decreases-loop-key g l = length (all_left g.S.Source.values_left g.S.Source.pairs_left l.left)
