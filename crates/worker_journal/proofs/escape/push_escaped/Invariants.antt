use Rattle.std.proofs.Common.{◌≡◌, ◌++◌, take}
use Rattle.worker_journal.specs.Escape.{escaped}
use Rattle.worker_journal.proofs.escape.push_escaped.Given as goal

abbrev pub invariant-loop-byte : goal.invariant-loop-byte
invariant-loop-byte l = l.out.items ≡ l.fn.out.items ++ escaped (take l.byte-index l.text)
