use Rattle.std.proofs.Common.{◌≡◌, ℕ}
use Rattle.worker.specs.DeadLetters.Dead.{Goes}
use Rattle.worker.specs.Letters.{desk_of, names_of}
use Rattle.worker.proofs.dead_letters.search.deliver.Given as goal

-- it went on so far, under the same names
abbrev pub invariant-loop : goal.invariant-loop
invariant-loop g l = record {
  names : names_of l.desk ≡ names_of l.fn.desk;
  goes : (n : ℕ) × Goes (names_of l.fn.desk) n l.fn.connection (desk_of l.fn.desk) l.connection (desk_of l.desk);
}
