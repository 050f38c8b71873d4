use Rattle.std.proofs.Common.{length, map}
use Rattle.redis_resp.specs.Tree.{single}
use Rattle.stream_entries.specs.EntryMeaning.{entries_of}
use Rattle.stream_entries.proofs.ItemFormLemmas.{EntriesSoFar}
use Rattle.stream_entries.proofs.items.read_singles.Given as goal

abbrev pub invariant-loop-key : goal.invariant-loop-key
invariant-loop-key g l = EntriesSoFar g.F.ItemForm.form (map single (g.S.Source.pairs_left l.initial.pairs))
    (map single (g.S.Source.pairs_left l.pairs)) (entries_of l.ids)

abbrev pub decreases-loop-key : goal.decreases-loop-key
decreases-loop-key g l = length (g.S.Source.pairs_left l.pairs)
