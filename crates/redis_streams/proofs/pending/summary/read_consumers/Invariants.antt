use Rattle.std.proofs.Common.{◌≡◌, ◌++◌, map, option_map, length}
use Rattle.std.specs.Vec.Iter.{into_iter_items, into_iter_len}
use Rattle.redis_streams.specs.Pending.{consumers_of}
use Rattle.redis_streams.specs.InfoMeaning.{consumer_meaning}
use Rattle.redis_streams.specs.PendingMeaning.{row_meaning}
use Rattle.redis_streams.proofs.pending.summary.read_consumers.Given as goal

abbrev pub invariant-loop-row : goal.invariant-loop-row
invariant-loop-row l = record {
  so_far : map consumer_meaning l.consumers.items ++ consumers_of
      (map (option_map row_meaning) (into_iter_items l.row-iterator))
      ≡ consumers_of (map (option_map row_meaning) (into_iter_items l.initial.row-iterator));
  count : into_iter_len l.row-iterator ≡ length (into_iter_items l.row-iterator);
}
