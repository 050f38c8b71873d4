use Rattle.std.proofs.Common.{◌≡◌, ◌++◌, map, length}
use Rattle.std.specs.Vec.Iter.{into_iter_items, into_iter_len}
use Rattle.worker.specs.DeadLetters.Dead.{row_of, waiting_of}
use Rattle.worker.proofs.dead_letters.search.collect_waiting.Given as goal

-- the entries so far, and behind them those of the rows that are left, are all
abbrev pub invariant-loop-id : goal.invariant-loop-id
invariant-loop-id l = record {
  so_far : map waiting_of l.all.items ++ map row_of (into_iter_items l.id-iterator)
      ≡ map row_of (into_iter_items l.initial.id-iterator);
  count : into_iter_len l.id-iterator ≡ length (into_iter_items l.id-iterator);
}
