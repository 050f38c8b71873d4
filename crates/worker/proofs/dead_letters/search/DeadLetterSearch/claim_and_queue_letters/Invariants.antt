use Rattle.std.proofs.Common.{◌≡◌, List, take}
use Rattle.worker.specs.Letters.{Entry}
use Rattle.worker.specs.DeadLetters.Dead.{PostsAll, claimer_of}
use Rattle.worker.specs.Letters.{desk_of, names_of}
use Rattle.worker.proofs.dead_letters.search.DeadLetterSearch.claim_and_queue_letters.Given as goal

-- the entries so far were claimed and posted, under the same names
abbrev pub invariant-loop-entry : goal.invariant-loop-entry
invariant-loop-entry g l = record {
  names : names_of l.desk ≡ names_of l.fn.desk;
  posts : (es : List Entry) × PostsAll (claimer_of l.self l.min_idle) (names_of l.fn.desk).2
      (take l.entry-index l.entries) es l.fn.connection (desk_of l.fn.desk) l.connection (desk_of l.desk);
}
