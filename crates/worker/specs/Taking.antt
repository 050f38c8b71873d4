-- The entries of a reply: the machine's `acks_in` and `told_in`, for some verdicts.
use Rattle.std.specs.Prelude.{◌≡◌, ℕ, Bool, true, false, List, ◌++◌, map, Result, Ok, Err}
use Rattle.model_server.specs.Group.Worker.{Id, Delivered, Verdict, follows, acks_one, told_one, acks_in, told_in, Ending}
use Rattle.model_server.specs.Group.Worker.{ending}
use Rattle.stream_in_place.specs.Sent.{Pairs, SentEntry}
use Rattle.worker.specs.Handling.{with_all}
use Rattle.worker.specs.declared.worker.Progress.{Progress}
use Rattle.worker.specs.declared.worker.Progress.TheVariants.{GoesOn, Stopped}

-- an entry as the machine receives it. It has no fields if nil is in their place, as for a deleted entry
abbrev pub delivered_of : SentEntry → Delivered Pairs
delivered_of e = (e.id, e.fields)

-- the entries `es` as the machine receives them
abbrev pub all_delivered : List SentEntry → List (Delivered Pairs)
all_delivered es = map delivered_of es

module _ {R : Type 0} (with_verdict : R → List ℕ × Pairs → Verdict → R) where
  -- one entry got a verdict. `on` says whether the next entry is passed to the handler too
  pub record TookOne (d : Delivered Pairs) (old new : List Id) (r s : R) (on : Bool) : Type 0 where
    pub verdict : Verdict
    pub ids : new ≡ old ++ acks_one d.0 d.1 verdict
    pub history : s ≡ with_all with_verdict r (told_one d.0 d.1 verdict)
    pub follows_then : on ≡ follows d.1 verdict

  -- `Ok`: the entry got a verdict. `Err`: it got none, and nothing changed
  abbrev pub TookOneOr : {E : Type 0} → Delivered Pairs → (old new : List Id) (r s : R) → Result Progress E → Type 0
  TookOneOr d old new r s (Ok GoesOn) = TookOne d old new r s true
  TookOneOr d old new r s (Ok Stopped) = TookOne d old new r s false
  TookOneOr d old new r s (Err e) = (new ≡ old) × (s ≡ r)

  -- the handler returned verdicts for all entries, or for the first ones. `how` says how the entries ended
  pub record Took (es : List (Delivered Pairs)) (old new : List Id) (r s : R) (how : Ending) : Type 0 where
    pub verdicts : List Verdict
    pub ids : new ≡ old ++ acks_in es verdicts
    pub history : s ≡ with_all with_verdict r (told_in es verdicts)
    pub ended : how ≡ ending es verdicts
