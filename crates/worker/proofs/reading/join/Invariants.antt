use Rattle.std.proofs.Common.{◌≡◌, ◌++◌, map, flat_map, length}
use Rattle.std.specs.Vec.Iter.{into_iter_items, into_iter_len}
use Rattle.worker.specs.Read.{named}
use Rattle.worker.proofs.reading.join.Given as goal

-- the streams so far, and behind them those that are left, are all
abbrev pub invariant-loop-list : goal.invariant-loop-list
invariant-loop-list l = record {
  so_far : map named l.streams.items ++ flat_map (λ x. map named x.0.items) (into_iter_items l.list-iterator)
      ≡ flat_map (λ x. map named x.0.items) (into_iter_items l.initial.list-iterator);
  count : into_iter_len l.list-iterator ≡ length (into_iter_items l.list-iterator);
}
