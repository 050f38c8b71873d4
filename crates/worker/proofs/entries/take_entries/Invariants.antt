use Rattle.std.proofs.Common.{map, take, string_bytes}
use Rattle.stream_in_place.specs.SentMeaning.{sent_of}
use Rattle.worker.specs.Taking.{all_delivered}
use Rattle.worker.proofs.TakingLemmas.{Going}
use Rattle.worker.proofs.entries.take_entries.Given as goal

-- all entries so far got verdicts
abbrev pub invariant-loop-entry : goal.invariant-loop-entry
invariant-loop-entry g l = Going g.H.Handler.with_verdict
    (all_delivered (map sent_of (take l.entry-index l.entries))) (map string_bytes l.initial.ids.items)
    (map string_bytes l.ids.items) (g.H.Handler.history l.initial.handler) (g.H.Handler.history l.handler)
