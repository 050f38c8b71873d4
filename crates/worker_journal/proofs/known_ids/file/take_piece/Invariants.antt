use Rattle.std.proofs.Common.{length}
use Rattle.worker_journal.specs.Lines.{HasNoEnd}
use Rattle.worker_journal.specs.KnownIds.Known.{places_in}
use Rattle.worker_journal.specs.KnownIds.Told.{Took}
use Rattle.worker_journal.proofs.known_ids.file.take_piece.Given as goal

-- the ids of the lines that ended so far are taken
abbrev pub invariant-loop-end : goal.invariant-loop-end
invariant-loop-end l = HasNoEnd l.fn.line.items → Took l.fn.json (places_in l.fn.ids.items) l.fn.start l.fn.line.items
    l.fn.piece (places_in l.ids.items) l.start l.line.items l.rest

abbrev pub decreases-loop-end : goal.decreases-loop-end
decreases-loop-end l = length l.rest
