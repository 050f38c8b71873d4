use Rattle.std.proofs.Common.{◌≡◌, ◌++◌, map, string_bytes}
use Rattle.worker.specs.Taking.{all_delivered}
use Rattle.worker.proofs.TakingLemmas.{Going}
use Rattle.worker.proofs.entries.take_in_place.Given as goal

-- all entries so far got verdicts
abbrev pub invariant-loop-entry : goal.invariant-loop-entry
invariant-loop-entry g l = record {
  whole : l.yielded ++ l.entry-iterator ≡ l.fn.entries;
  going : Going g.H.Handler.with_verdict (all_delivered l.yielded) (map string_bytes l.initial.ids.items)
      (map string_bytes l.ids.items) (g.H.Handler.history l.initial.handler) (g.H.Handler.history l.handler);
}
