use Rattle.std.proofs.Common.{◌≡◌, ◌++◌, map, option_map, length}
use Rattle.std.specs.Vec.Iter.{into_iter_items, into_iter_len}
use Rattle.stream_in_place.specs.SentMeaning.{sent_of}
use Rattle.stream_in_place.specs.SentReading.{there}
use Rattle.stream_in_place.proofs.sent.count_rows_there.Given as goal

abbrev pub invariant-loop-row : goal.invariant-loop-row
invariant-loop-row l = record {
  so_far : map sent_of l.found.items ++ there (map (option_map sent_of) (into_iter_items l.row-iterator))
      ≡ there (map (option_map sent_of) (into_iter_items l.initial.row-iterator));
  count : into_iter_len l.row-iterator ≡ length (into_iter_items l.row-iterator);
}
