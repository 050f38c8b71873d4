use Rattle.std.proofs.Common.{◌≡◌, take}
use Rattle.worker.specs.DeadLetters.Dead.{searcher_of}
use Rattle.stream_run.specs.GivenUp.{GivesUpEach, names_of_search}
use Rattle.stream_run.proofs.drain.give_up_each.Given as goal

-- the entries of the notes so far were given up, under the same names, and the search is the same
abbrev pub invariant-loop-note : goal.invariant-loop-note
invariant-loop-note g l = record {
  names : names_of_search l.search ≡ names_of_search l.fn.search;
  same_search : searcher_of l.search ≡ searcher_of l.fn.search;
  given_up : GivesUpEach (names_of_search l.fn.search) (take l.note-index l.notes) l.fn.connection l.connection;
}
