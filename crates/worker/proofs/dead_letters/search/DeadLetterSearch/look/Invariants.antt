use Rattle.std.proofs.Common.{◌≡◌, string_bytes}
use Rattle.worker.specs.DeadLetters.Besides.{Besides}
use Rattle.worker.specs.DeadLetters.Dead.{SearchesFull, searcher_of}
use Rattle.worker.proofs.dead_letters.search.DeadLetterSearch.look.Given as goal

-- full pages were searched, one after the other
abbrev pub invariant-loop-page : goal.invariant-loop-page
invariant-loop-page g l = record {
  besides : Besides l.fn.connection l.connection;
  same : l.self ≡ record l.fn.self { letters = l.self.letters };
  pages : SearchesFull (searcher_of l.fn.self) l.own l._page (string_bytes l.start) l.fn.connection l.connection;
}
