use Rattle.std.proofs.Common.{◌≡◌, map, length}
use Rattle.std.specs.Vec.Iter.{into_iter_items, into_iter_len}
use Rattle.worker_journal.specs.EntryLineMeaning.{field_of}
use Rattle.worker_journal.specs.LineTexts.{bytes_of, two_by_two}
use Rattle.worker_journal.proofs.LineTextsLemmas.{pairs_behind}
use Rattle.worker_journal.proofs.entry_line.make_entry.Given as goal

-- the pairs so far and those of the rest are those of all
abbrev pub invariant-loop-name : goal.invariant-loop-name
invariant-loop-name l = record {
  so_far : pairs_behind (map field_of l.fields.items) (into_iter_items l.rest)
      ≡ two_by_two (bytes_of (into_iter_items l.initial.rest));
  count : into_iter_len l.rest ≡ length (into_iter_items l.rest);
}

abbrev pub decreases-loop-name : goal.decreases-loop-name
decreases-loop-name l = into_iter_len l.rest
