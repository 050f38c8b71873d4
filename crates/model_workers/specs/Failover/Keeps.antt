-- A handler that checks its file for an entry before it adds a line.
use Rattle.std.specs.Prelude.{◌≡◌, List, [], ◌∷◌, ◌++◌, if◌then◌else◌}
use Rattle.model_server.specs.Failover.Lookup.{unwritten}
use Rattle.model_workers.specs.Files.Files.{Fields}
use Rattle.model_server.specs.Group.Group.{ids_of, listed}
use Rattle.model_server.specs.Group.Worker.{Delivered, Entry, Verdict, done, left_pending, stop, handled_in, told_in}
use Rattle.worker.specs.Gathered.{Doings, committed_too}
use Rattle.worker.specs.Handling.{with_all}

-- what a handler does with its state: `with_verdict` after a verdict, and `with_commit` after a commit.
-- `written` is the state with gathered `lines` and a file
pub record Keeps (R : Type 0) : Type 0 where
  pub with_verdict : R → Entry Fields → Verdict → R
  pub with_commit : R → R
  pub written : (lines file : List (Entry Fields)) → R

-- the handler checks its file like the consumer of `model_server::failover`: it adds no second line for an id.
-- A commit appends the lines to the file
pub record LooksUp {R : Type 0} (k : Keeps R) : Type 0 where
  pub reply : (lines file : List (Entry Fields)) (es : List (Delivered Fields)) (verdicts : List Verdict)
      → with_all k.with_verdict (k.written lines file) (told_in es verdicts)
      ≡ k.written (lines ++ unwritten (ids_of (file ++ lines)) (handled_in es verdicts)) file
  pub commit : (lines file : List (Entry Fields)) → k.with_commit (k.written lines file) ≡ k.written [] (file ++ lines)

-- the entries after one more verdict. `e` is added if it was done, unless its id is committed or gathered
abbrev pub looked_too : Doings → Entry Fields → Verdict → Doings
looked_too d e done =
    if listed (ids_of (d.committed ++ d.loose)) e.0 then d else record d { loose = d.loose ++ e ∷ [] }
looked_too d e left_pending = d
looked_too d e stop = d

-- the handler that keeps the entries themselves
abbrev pub keeps_entries : Keeps Doings
keeps_entries = record {
  with_verdict = looked_too;
  with_commit = committed_too;
  written = λ lines file. record { loose = lines; committed = file };
}

-- the law: the handler that keeps entries checks its file
abbrev pub EntriesLookUp : Type 0
EntriesLookUp = LooksUp keeps_entries
