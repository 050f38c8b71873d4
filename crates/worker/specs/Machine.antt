-- A worker as the machine of the laws.
use Rattle.std.specs.Prelude.{◌≡◌, ℕ, Bool, true, false, not, ◌&&◌, List, [], ◌∷◌, ◌++◌, map, Result, Ok, Err, String}
use Rattle.std.specs.Prelude.{Vec, string_bytes, if◌then◌else◌}
use Rattle.std.specs.declared.alloc.Global.{Global}
use Rattle.model_server.specs.Group.Worker as machine
use Rattle.model_server.specs.Group.Worker.{Id, Delivered, Verdict, Machine, Ending, went_through, stopped, cut_off, ending}
use Rattle.model_server.specs.Group.Worker.{acks_in, told_in, phase_at, after_commit}
use Rattle.stream_in_place.specs.Sent.{Pairs}
use Rattle.worker.specs.Handling.{with_all}
use Rattle.worker.specs.Questions.{phase_of}
use Rattle.worker.specs.declared.worker.Progress.{Progress}
use Rattle.worker.specs.declared.worker.Progress.TheVariants.{GoesOn, Stopped}
use Rattle.worker.specs.declared.worker.Worker.{Worker}

-- the ids as bytes, in order
abbrev pub ids_of : Vec (String Global) Global → List Id
ids_of ids = map string_bytes ids.items

-- the machine for the state of a worker
abbrev pub machine_of : Worker → Machine
machine_of w = record {
  every = w.settings.every;
  phase = phase_of w.phase;
  to_commit = ids_of w.to_commit;
  to_acknowledge = ids_of w.to_acknowledge;
}

-- whether the list is empty
abbrev pub is_empty : {A : Type 0} → List A → Bool
is_empty [] = true
is_empty (x ∷ xs) = false

-- whether there is nothing to commit and nothing to acknowledge
abbrev pub is_settled : Machine → Bool
is_settled m = is_empty m.to_commit && is_empty m.to_acknowledge

-- whether a worker commits before its next command: it has something to commit, and nothing to acknowledge
abbrev pub commits : Machine → Bool
commits m = is_empty m.to_acknowledge && not (is_empty m.to_commit)

-- the machine when it requests a command, after the commit, if it commits
abbrev pub at_request : Machine → Machine
at_request m = if commits m then after_commit m else m

-- the history when the machine requests a command, with one more commit if it commits
abbrev pub history_at_request : {R : Type 0} → (R → R) → Machine → R → R
history_at_request with_commit m r = if commits m then with_commit r else r

-- how the entries ended, by the progress of the worker
abbrev pub ending_of : Progress → Ending
ending_of GoesOn = went_through
ending_of Stopped = stopped

-- how the entries ended, by the result. After an error the rest of the entries were not taken
abbrev pub ending_said : {E : Type 0} → Result Progress E → Ending
ending_said (Ok p) = ending_of p
ending_said (Err e) = cut_off

module _ {R : Type 0} (with_verdict : R → List ℕ × Pairs → Verdict → R) where
  -- the machine took the entries `es` and goes on in the phase `next`. If the handler stopped before the last
  -- entry, the machine begins again
  pub record Moved (es : List (Delivered Pairs)) (next : machine.Phase) (m n : Machine) (r s : R)
      (how : Ending) : Type 0 where
    pub verdicts : List Verdict
    pub machine : n ≡ record {
      every = m.every;
      phase = phase_at how next;
      to_commit = m.to_commit ++ acks_in es verdicts;
      to_acknowledge = m.to_acknowledge;
    }
    pub history : s ≡ with_all with_verdict r (told_in es verdicts)
    pub ended : how ≡ ending es verdicts
