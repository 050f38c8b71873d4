-- The verdicts and the history of a worker's handler.
use Rattle.std.specs.Prelude.{ℕ, List, [], ◌∷◌}
use Rattle.model_server.specs.Group.Worker as machine
use Rattle.stream_in_place.specs.Copied.{pairs_or_none}
use Rattle.stream_in_place.specs.Sent.{Pairs, SentEntry}
use Rattle.worker.specs.declared.handler.Verdict.{Verdict}
use Rattle.worker.specs.declared.handler.Verdict.TheVariants.{Done, LeavePending, Stop}

-- a verdict of the handler, as the machine's verdict
abbrev pub verdict_of : Verdict → machine.Verdict
verdict_of Done = machine.done
verdict_of LeavePending = machine.left_pending
verdict_of Stop = machine.stop

-- an entry with its fields in order, in the machine's form
abbrev pub pair_of : SentEntry → List ℕ × Pairs
pair_of e = (e.id, pairs_or_none e.fields)

-- the history `r` after all these entries and their verdicts
abbrev pub with_all : {R : Type 0} → (R → List ℕ × Pairs → machine.Verdict → R) → R
    → List ((List ℕ × Pairs) × machine.Verdict) → R
with_all with_verdict r [] = r
with_all with_verdict r (t ∷ ts) = with_all with_verdict (with_verdict r t.0 t.1) ts
