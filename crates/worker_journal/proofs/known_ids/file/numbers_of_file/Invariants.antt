use Rattle.std.proofs.Common.{◌≤◌, ◌-◌}
use Rattle.worker_journal.specs.Lines.{HasNoEnd}
use Rattle.worker_journal.specs.KnownIds.Known.{places_in}
use Rattle.worker_journal.proofs.KnownIdsLemmas.FileLemmas.{TookTo}
use Rattle.worker_journal.proofs.known_ids.file.numbers_of_file.Given as goal

-- the ids so far, and those of what is left, are all
abbrev pub invariant-loop-at : goal.invariant-loop-at
invariant-loop-at g l = record {
  within : l.at ≤ l.len;
  no_end : HasNoEnd l.line.items;
  so_far : TookTo (g.D.LogFile.seen l.fn.file) l.fn.json (places_in l.ids.items) l.start l.line.items l.at;
}

abbrev pub decreases-loop-at : goal.decreases-loop-at
decreases-loop-at g l = l.len - l.at
