use Rattle.std.proofs.Common.{◌≡◌, map, take}
use Rattle.redis_streams.specs.InfoFullMeaning.{full_pending_meaning}
use Rattle.stream_top.specs.Figures.{most_in}
use Rattle.stream_top.proofs.figures.find_most_deliveries.Given as goal

abbrev pub invariant-loop-entry : goal.invariant-loop-entry
invariant-loop-entry l = l.most ≡ most_in (map full_pending_meaning (take l.entry-index l.pending))
