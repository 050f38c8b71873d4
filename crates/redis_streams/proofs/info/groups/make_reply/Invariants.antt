use Rattle.std.proofs.Common.{◌≡◌, ◌++◌, map, length}
use Rattle.std.specs.Vec.Iter.{into_iter_items, into_iter_len}
use Rattle.redis_streams.specs.InfoMeaning.{group_meaning}
use Rattle.redis_streams.proofs.info.groups.make_reply.Given as goal

abbrev pub invariant-loop-row : goal.invariant-loop-row
invariant-loop-row l = record {
  so_far : map group_meaning l.groups.items ++ map (λ row. group_meaning row.0) (into_iter_items l.row-iterator)
      ≡ map (λ row. group_meaning row.0) (into_iter_items l.initial.row-iterator);
  count : into_iter_len l.row-iterator ≡ length (into_iter_items l.row-iterator);
}
