use Rattle.std.proofs.Common.{◌≡◌, ◌++◌, ◌+◌, map, length}
use Rattle.std.specs.Vec.{vec_capacity, vec_len}
use Rattle.std.specs.Vec.Iter.{into_iter_items, into_iter_len}
use Rattle.redis_streams.specs.InfoMeaning.{consumer_meaning}
use Rattle.redis_streams.proofs.info.consumers.make_reply.Given as goal

abbrev pub invariant-loop-row : goal.invariant-loop-row
invariant-loop-row l = record {
  so_far : map consumer_meaning l.consumers.items ++ map (λ row. consumer_meaning row.0)
      (into_iter_items l.row-iterator) ≡ map (λ row. consumer_meaning row.0) (into_iter_items l.initial.row-iterator);
  room : vec_capacity l.consumers ≡ length (into_iter_items l.initial.row-iterator);
  free : vec_len l.consumers + length (into_iter_items l.row-iterator) ≡ vec_capacity l.consumers;
  count : into_iter_len l.row-iterator ≡ length (into_iter_items l.row-iterator);
}
